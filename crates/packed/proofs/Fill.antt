-- A lent list that a loop fills: the answers row by row, and words slice by slice. Assumes nothing.
use Prim.Native.Nat.{ℕ, zero, suc, ◌+◌, ◌*◌, ◌≤◌, ◌<◌}
use mathlib.Core.Path.{◌≡◌, refl, sym, ap, ap₂, ◌∙◌}
use mathlib.Core.List.{List, [], ◌∷◌, ◌++◌, append_assoc, append-nil}
use native.Mathlib.Nat.{le_refl}
use native.Mathlib.Numerals.{add-one}
use native.Mathlib.Omega.{arith}
use lib.ListN.{length, get_or, take, set, length-set}
use lib.Seq.{take-suc, take-suc-set, take_all}
use lib.IntN.{ℤ}
use Rattle.std.specs.List.{flat_map}
use Rattle.std.proofs.lemmas.Grind.{flat_map-append}
use Rattle.column.specs.Column.{stacked}
use Rattle.packed.specs.Packed.{pairs}
use Rattle.packed.specs.Parts.{with_row}

pub pairs_ext : (high low high' low' : ℕ → ℤ) (n : ℕ) → ((j : ℕ) → j < n → (high j ≡ high' j) × (low j ≡ low' j)) → pairs high low n ≡ pairs high' low' n
unfolding pairs
pairs_ext high low high' low' zero e = refl
pairs_ext high low high' low' (suc n) e =
    let l = e n (le_refl (suc n)) in
    ap₂ (λ (x y : List ℤ). x ++ y) (pairs_ext high low high' low' n (λ j h. e j (omega arith))) (ap₂ (λ (x y : ℤ). x ∷ y ∷ []) l.0 l.1)

-- the first j of n rows have their answers
pub record Answered (high low : ℕ → ℤ) (n j : ℕ) (os : List ℤ) : Type 0 where
  pub most : j ≤ n
  pub long : length os ≡ 2 * n
  pub done : take (2 * j) os ≡ pairs high low j

module _ (high low : ℕ → ℤ) (n : ℕ) where
  pub none_answered : (os : List ℤ) → length os ≡ 2 * n → Answered high low n 0 os
  unfolding pairs
  none_answered os h = record { most = omega arith; long = h; done = refl }

  pub room : (j : ℕ) (os : List ℤ) → j < n → Answered high low n j os → 2 * j + 1 < length os
  room j os turn f = let h = f.long in omega arith

  pub one_answered : (j : ℕ) (os : List ℤ) (h l : ℤ) → j < n → Answered high low n j os → h ≡ high j → l ≡ low j
      → Answered high low n (j + 1) (with_row os j h l)
  unfolding pairs
  one_answered j os h l turn f eh el =
      let long = f.long in
      let once : length (set os (2 * j) h) ≡ 2 * n = length-set os (2 * j) h ∙ long in
      let first : 2 * j < length os = omega arith in
      let second : suc (2 * j) < length (set os (2 * j) h) = omega arith in
      let e : 2 * (j + 1) ≡ suc (suc (2 * j)) = omega arith in
      record {
        most = omega arith;
        long = length-set (set os (2 * j) h) (2 * j + 1) l ∙ once;
        done = rw (e, add-one (2 * j), take-suc-set, take-suc-set, f.done, eh, el, add-one j, append_assoc);
      }

  pub all_answered : (j : ℕ) (os : List ℤ) → n ≤ j → Answered high low n j os → os ≡ pairs high low n
  all_answered j os h f =
      let long = f.long in
      let e : j ≡ n = let m = f.most in omega arith in
      sym (take_all (2 * j) os (omega arith)) ∙ f.done ∙ ap (pairs high low) e

-- lists, each of which is f's at its place, one after the other
module _ (f : ℕ → List ℕ) (xss : List (List ℕ)) where
  first : (n : ℕ) → n ≤ length xss → ((k : ℕ) → k < n → get_or xss k [] ≡ f k) → flat_map (λ (xs : List ℕ). xs) (take n xss) ≡ stacked f n
  first zero h e = refl
  first (suc n) h e =
      rw (take-suc xss n [] h, flat_map-append, first n (omega arith) (λ k l. e k (omega arith)), e n (le_refl (suc n)), append-nil)

  pub flattened : (n : ℕ) → length xss ≡ n → ((k : ℕ) → k < n → get_or xss k [] ≡ f k) → flat_map (λ (xs : List ℕ). xs) xss ≡ stacked f n
  flattened n h e = let all : length xss ≤ n = omega arith in rw take_all at (first n (omega arith) e)
