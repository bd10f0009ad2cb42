-- A test at every number below n, computed once for all of them, and read off at each. Assumes nothing.
use Rattle.std.proofs.Common.{◌≡◌, ℕ, zero, suc, ◌<◌, Bool, true, ◌&&◌, ⊎_elim, le_of_suc-le-suc, not-suc-le-zero, eq-or-lt_of_le}
use Rattle.word.proofs.Laws.{both_true}

abbrev pub every : (n : ℕ) → (ℕ → Bool) → Bool
every zero f = true
every (suc n) f = every n f && f n

pub every_at : (n : ℕ) (f : ℕ → Bool) → every n f ≡ true → (i : ℕ) → i < n → f i ≡ true
every_at zero f p i h = absurd (not-suc-le-zero h)
every_at (suc n) f p i h =
    let q = both_true (every n f) (f n) p in
    ⊎_elim
    (λ (e : i ≡ n). rw e q.1)
    (λ (l : i < n). every_at n f q.0 i l)
    (eq-or-lt_of_le (le_of_suc-le-suc h))

pub every_at_2 : (n m : ℕ) (f : ℕ → ℕ → Bool) → every n (λ i. every m (f i)) ≡ true → (i j : ℕ) → i < n → j < m → f i j ≡ true
every_at_2 n m f p i j h g = every_at m (f i) (every_at n (λ i. every m (f i)) p i h) j g
