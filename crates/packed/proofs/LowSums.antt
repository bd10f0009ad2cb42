-- Overfull rows (02, Ask 6). The sum of n products of bytes is at most n · 2^14, and that much exactly where all 2 · n bytes are −128; so
-- for 1 to 8 terms the low sum is 2^17 exactly in an overfull row, and fits 18 bits in every other. Assumes nothing.
use Prim.Native.Nat.{ℕ, zero, suc, ◌+◌, ◌*◌, ◌^◌, ◌≤◌, ◌<◌}
use native.Mathlib.Nat.{le_refl, le_trans, mul-le-mul, mul_comm, eq-or-lt_of_le}
use native.Mathlib.Omega.{arith}
use mathlib.Core.Path.{◌≡◌, refl, sym, ap, ap₂, ◌∙◌}
use mathlib.Core.Logic.{⊎_elim}
use mathlib.Core.Bool.{Bool, true, false, true≢false, ◌&&◌}
use mathlib.Core.List.{List}
use lib.Dec.{eqb}
use lib.ListN.{length, get_or, take, drop, length-drop}
use lib.Seq.{take-suc, get_or-drop}
use Rattle.std.specs.List.{fold}
use Rattle.std.proofs.lemmas.Grind.{fold-append}
use lib.IntN.{ℤ, pos, negsuc, nat_abs, sub_ℕ, ◌+ℤ◌, ◌*ℤ◌}
use lib.Signed.{mag, nat_abs-le}
use borrow.Author.Tests.{eqb-true, eq-eqb}
use Rattle.word.specs.Word.{low_sum}
use Rattle.word.proofs.Laws.{both_true, signed_small}
use Rattle.word.proofs.Integers.{up, down, parts, as_sub, pos_sub, add_sub}
use Rattle.packed.specs.Packed.{most_terms, Batch, Byte, dot, low_dot}
use Rattle.packed.specs.Calls.{is_lowest, all_lowest, overfull}
use Rattle.packed.proofs.Sizes.{nat_abs_mul, nat_abs_mul_le}
use Rattle.packed.proofs.Dots.{Bytes, dot_size}

-- ---- one number

lowest_is : (z : ℤ) → is_lowest z ≡ true → z ≡ negsuc 127
lowest_is (pos n) e = cc
lowest_is (negsuc n) e = ap negsuc (eqb-true n 127 e)

-- n numbers from place s on, one after the other
pub all_folded : (xs : List ℤ) (s n : ℕ) → s + n ≤ length xs
    → fold (λ (all : Bool) (v : ℤ). all && is_lowest v) true (take n (drop s xs)) ≡ all_lowest xs s n
unfolding all_lowest
all_folded xs s zero h = refl
all_folded xs s (suc n) h =
    let room : n < length (drop s xs) = simp length-drop (omega arith) in
    let here : get_or (drop s xs) n (pos 0) ≡ get_or xs (s + n) (pos 0) = rw get_or-drop in
    rw (take-suc (drop s xs) n (pos 0) room, fold-append, all_folded xs s n (omega arith), here)

-- ---- a sum and a product that are as large as they can be

up_abs : (z : ℤ) → up z ≤ nat_abs z
up_abs (pos n) = le_refl n
up_abs (negsuc n) = omega arith

both_most : (y z : ℤ) (m n : ℕ) → nat_abs y ≤ m → nat_abs z ≤ n → y +ℤ z ≡ pos (m + n) → (y ≡ pos m) × (z ≡ pos n)
both_most y z m n hy hz e =
    let sum = parts (pos (m + n)) (up y + up z) (down y + down z) (sym e ∙ add_sub y z) in
    let ly = up_abs y in
    let lz = up_abs z in
    let up-y : up y ≡ m = omega arith in
    let up-z : up z ≡ n = omega arith in
    let down-y : down y ≡ 0 = omega arith in
    let down-z : down z ≡ 0 = omega arith in
    (as_sub y ∙ ap₂ sub_ℕ up-y down-y ∙ sym (pos_sub m), as_sub z ∙ ap₂ sub_ℕ up-z down-z ∙ sym (pos_sub n))

factor_most : (m n : ℕ) → m ≤ 2 ^ 7 → n ≤ 2 ^ 7 → m * n ≡ 2 ^ 14 → m ≡ 2 ^ 7
factor_most m n hm hn e =
    ⊎_elim
    (λ same. same)
    (λ (l : m < 2 ^ 7). let less : m ≤ 127 = omega arith in absurd (omega (arith, e, mul-le-mul less hn)))
    (eq-or-lt_of_le hm)

-- a byte of size 2^7 is −128
byte_lowest : (z : ℤ) → Byte z → nat_abs z ≡ 2 ^ 7 → is_lowest z ≡ true
byte_lowest (pos n) h e = absurd (omega (arith, h, e))
byte_lowest (negsuc n) h e = eq-eqb n 127 (omega (arith, e))

product_most : (x y : ℤ) → Byte x → Byte y → x *ℤ y ≡ pos (2 ^ 14) → (is_lowest x ≡ true) × (is_lowest y ≡ true)
product_most x y hx hy e =
    let size : nat_abs x * nat_abs y ≡ 2 ^ 14 = sym (nat_abs_mul x y) ∙ ap nat_abs e in
    let lx = nat_abs-le x hx in
    let ly = nat_abs-le y hy in (
      byte_lowest x hx (factor_most (nat_abs x) (nat_abs y) lx ly size),
      byte_lowest y hy (factor_most (nat_abs y) (nat_abs x) ly lx (mul_comm (nat_abs y) (nat_abs x) ∙ size)),
    )

-- ---- the bound of a dot product, for any number of terms, is reached exactly where all numbers are −128

module _ (xs ys : List ℤ) (s : ℕ) where
  pub dot_reached : (n : ℕ) → all_lowest xs s n ≡ true → all_lowest ys s n ≡ true → dot xs ys s n ≡ pos (n * 2 ^ 14)
  unfolding dot all_lowest
  dot_reached zero hx hy = refl
  dot_reached (suc n) hx hy =
      let x = get_or xs (s + n) (pos 0) in
      let y = get_or ys (s + n) (pos 0) in
      let tx = both_true (all_lowest xs s n) (is_lowest x) hx in
      let ty = both_true (all_lowest ys s n) (is_lowest y) hy in
      rw (dot_reached n tx.0 ty.0, lowest_is x tx.1, lowest_is y ty.1) (ap pos (omega arith))

  pub dot_reaches : (n : ℕ) → Bytes xs s n → Bytes ys s n → dot xs ys s n ≡ pos (n * 2 ^ 14)
      → (all_lowest xs s n ≡ true) × (all_lowest ys s n ≡ true)
  unfolding dot all_lowest
  dot_reaches zero hx hy e = (refl, refl)
  dot_reaches (suc n) hx hy e =
      let x = get_or xs (s + n) (pos 0) in
      let y = get_or ys (s + n) (pos 0) in
      let byte-x = hx n (le_refl (suc n)) in
      let byte-y = hy n (le_refl (suc n)) in
      let fewer-x : Bytes xs s n = λ k h. hx k (omega arith) in
      let fewer-y : Bytes ys s n = λ k h. hy k (omega arith) in
      let split : suc n * 2 ^ 14 ≡ n * 2 ^ 14 + 2 ^ 14 = omega arith in
      let most =
      both_most (dot xs ys s n) (x *ℤ y) (n * 2 ^ 14) (2 ^ 14) (dot_size xs ys s n fewer-x fewer-y)
      (nat_abs_mul_le x y (nat_abs-le x byte-x) (nat_abs-le y byte-y)) (e ∙ ap pos split)
      in
      let rest = dot_reaches n fewer-x fewer-y most.0 in
      let last = product_most x y byte-x byte-y most.1 in
      (rw (rest.0, last.0), rw (rest.1, last.1))

-- ---- the low sum of a row

-- 18 bits read as signed are never 2^17
never_read : (p : ℕ) → low_sum p ≡ pos (2 ^ 17) → ⊥
never_read p e = let size : mag (low_sum p) ≡ 2 ^ 17 = ap mag e in omega (arith, size, signed_small 18 p)

below_most : (z : ℤ) (m : ℕ) → nat_abs z ≤ m → (z ≡ pos m → ⊥) → mag z < m
below_most (pos n) m h other = ⊎_elim (λ (e : n ≡ m). absurd (other (ap pos e))) (λ l. l) (eq-or-lt_of_le h)
below_most (negsuc n) m h other = h

module _ (g : Batch) (j : ℕ) where
  -- an overfull row's is 2^17, which is 131072
  pub overfull_low : overfull g j ≡ true → low_dot g j ≡ pos (2 ^ 17)
  overfull_low full =
      let eight = both_true (eqb g.terms most_terms) _ full in
      let all = both_true (all_lowest g.d (j * g.terms) g.terms) _ eight.1 in
      let e : g.terms * 2 ^ 14 ≡ 2 ^ 17 = ap (λ (n : ℕ). n * 2 ^ 14) (eqb-true g.terms most_terms eight.0) in
      dot_reached g.d g.b (j * g.terms) g.terms all.0 all.1 ∙ ap pos e

  -- which is read from no word, so a row whose low sum is read is not overfull
  pub overfull_unread : overfull g j ≡ true → (p : ℕ) → low_sum p ≡ low_dot g j → ⊥
  overfull_unread full p e = never_read p (e ∙ overfull_low full)

  pub not_overfull : (p : ℕ) → low_sum p ≡ low_dot g j → overfull g j ≡ false
  not_overfull p e = by (overfull g j) refl
    where
      by : (full : Bool) → overfull g j ≡ full → overfull g j ≡ false
      by true full = absurd (overfull_unread full p e)
      by false full = full

  module _ (most : g.terms ≤ most_terms) (hd : Bytes g.d (j * g.terms) g.terms) (hb : Bytes g.b (j * g.terms) g.terms) where
    size : nat_abs (low_dot g j) ≤ g.terms * 2 ^ 14
    size = dot_size g.d g.b (j * g.terms) g.terms hd hb

    -- and no other row's is
    pub low_overfull : low_dot g j ≡ pos (2 ^ 17) → overfull g j ≡ true
    low_overfull e =
        let long : 2 ^ 17 ≤ g.terms * 2 ^ 14 = rw (ap nat_abs e) at size in
        let eight : g.terms ≡ most_terms = omega (arith, most, long) in
        let reach : pos (2 ^ 17) ≡ pos (g.terms * 2 ^ 14) = ap (λ (n : ℕ). pos (n * 2 ^ 14)) (sym eight) in
        let all = dot_reaches g.d g.b (j * g.terms) g.terms hd hb (e ∙ reach) in
        rw (eq-eqb g.terms most_terms eight, all.0, all.1)

    pub low_fits : overfull g j ≡ false → mag (low_dot g j) < 2 ^ 17
    low_fits fits =
        below_most (low_dot g j) (2 ^ 17) (le_trans size (mul-le-mul most (le_refl (2 ^ 14))))
        (λ e. absurd (true≢false (sym (low_overfull e) ∙ fits)))
