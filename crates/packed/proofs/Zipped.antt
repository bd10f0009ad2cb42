-- A row's terms as an iterator over them has them: what is left after k turns. Assumes nothing.
use Prim.Native.Nat.{ℕ, zero, suc, ◌+◌, ◌-◌, ◌≤◌, ◌<◌}
use mathlib.Core.Path.{◌≡◌, refl, sym, ap, ◌∙◌}
use mathlib.Core.List.{List, ◌∷◌}
use native.Mathlib.Nat.{add-zero}
use native.Mathlib.Omega.{arith}
use lib.ListN.{length, get_or, take, drop, length-take, length-drop}
use lib.Seq.{drop-cons}
use lib.IntN.{ℤ, pos}

-- after k of n terms from place s on
pub record Left (xs : List ℤ) (s n k : ℕ) (rest : List ℤ) : Type 0 where
  pub room : s + n ≤ length xs
  pub most : k ≤ n
  pub is : rest ≡ take (n - k) (drop (s + k) xs)

module _ (xs : List ℤ) (s n : ℕ) where
  pub all_left : s + n ≤ length xs → {rest : List ℤ} → rest ≡ take (s + n - s) (drop s xs) → Left xs s n 0 rest
  all_left room e =
      let all : s + n - s ≡ n - 0 = omega arith in
      record { room = room; most = omega arith; is = rw (add-zero, ← all) e }

  pub left_long : {k : ℕ} {rest : List ℤ} → Left xs s n k rest → length rest ≡ n - k
  left_long {k} l = let room = l.room in ap length l.is ∙ simp (length-take, length-drop) (omega arith)

  -- one more
  pub turned : (k : ℕ) (x : ℤ) (rest now : List ℤ) → Left xs s n k now → now ≡ x ∷ rest
      → (k < n) × (get_or xs (s + k) (pos 0) ≡ x) × Left xs s n (k + 1) rest
  turned k x rest now l turn = by (n - k) refl
    where
      e : take (n - k) (drop (s + k) xs) ≡ x ∷ rest
      e = sym l.is ∙ turn

      by : (m : ℕ) → n - k ≡ m → (k < n) × (get_or xs (s + k) (pos 0) ≡ x) × Left xs s n (k + 1) rest
      by zero is = let none : take 0 (drop (s + k) xs) ≡ x ∷ rest = rw is at e in cc
      by (suc m) is =
          let room = l.room in
          let more : s + k < length xs = omega arith in
          let cons = rw (is, drop-cons xs (s + k) (pos 0) more) at e in
          let here : get_or xs (s + k) (pos 0) ≡ x = cc in
          let rest_is : rest ≡ take m (drop (suc (s + k)) xs) = cc in
          let count : n - (k + 1) ≡ m = omega arith in
          let place : s + (k + 1) ≡ suc (s + k) = omega arith in
          (omega arith, here, record { room = room; most = omega arith; is = rw (count, place) rest_is })
