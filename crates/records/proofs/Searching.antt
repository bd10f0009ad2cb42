-- Some number below n passes a test. Assumes nothing.
use mathlib.Core.Path.{◌≡◌, refl, subst, subst⁻¹}
use mathlib.Core.Logic.{⊎_elim}
use mathlib.Core.Bool.{Bool, true, false, ◌||◌}
use Prim.Native.Nat.{ℕ, zero, suc, ◌<◌}
use native.Mathlib.Nat.{eq-or-lt_of_le, le_of_suc-le-suc, not-suc-le-zero}
use native.Mathlib.Omega.{arith}
use Rattle.records.specs.Records.{some}

-- two tests, joined
pub or_true : (b : Bool) → b || true ≡ true
or_true true = refl
or_true false = refl

pub neither : (a b : Bool) → a ≡ false → b ≡ false → a || b ≡ false
neither true b p q = p
neither false b p q = q

pub or_false : (a b : Bool) → a || b ≡ false → (a ≡ false) × (b ≡ false)
or_false true b p = let z : true ≡ false = p in (cc, cc)
or_false false b p = (refl, p)

pub some_true : (f : ℕ → Bool) (n i : ℕ) → i < n → f i ≡ true → some f n ≡ true
some_true f zero i h p = absurd (not-suc-le-zero h)
some_true f (suc n) i h p =
    ⊎_elim
    (λ (e : i ≡ n). simp (subst (λ (j : ℕ). f j ≡ true) e p, or_true))
    (λ (l : i < n). simp (some_true f n i l p))
    (eq-or-lt_of_le (le_of_suc-le-suc h))

pub some_false : (f : ℕ → Bool) (n i : ℕ) → some f n ≡ false → i < n → f i ≡ false
some_false f zero i p h = absurd (not-suc-le-zero h)
some_false f (suc n) i p h =
    let q = or_false (some f n) (f n) p in
    ⊎_elim
    (λ (e : i ≡ n). subst⁻¹ (λ (j : ℕ). f j ≡ false) e q.1)
    (λ (l : i < n). some_false f n i q.0 l)
    (eq-or-lt_of_le (le_of_suc-le-suc h))

pub none_some : (f : ℕ → Bool) (n : ℕ) → ((i : ℕ) → i < n → f i ≡ false) → some f n ≡ false
none_some f zero h = refl
none_some f (suc n) h = rw (none_some f n (λ i l. h i (omega arith)), h n (omega arith))
