-- A list in stretches of n words, written one stretch after the other: laws for every n. Assumes nothing.
use mathlib.Core.Path.{◌≡◌, ◌∙◌, sym, ap, ap₂, subst, refl}
use mathlib.Core.Logic.{⊎_elim}
use mathlib.Core.List.{List, ◌++◌, append_assoc, append-nil}
use Prim.Native.Nat.{ℕ, zero, suc, ◌+◌, ◌*◌, ◌-◌, ◌<◌, ◌≤◌}
use native.Mathlib.Nat.{mul-zero, mul-suc, mul-le-mul_left, not-suc-le-zero, le_of_suc-le-suc, eq-or-lt_of_le}
use native.Mathlib.Numerals.{add-one}
use native.Mathlib.Omega.{arith}
use lib.ListN.{length, take, drop, get_or, replicate, length-append, length-take, length-drop, drop_of_length-le, replicate-append-replicate}
use lib.Seq.{take_at, drop_at, drop-drop, get_or-take, get_or-drop, take_all, take-append-le, drop-append-le}
use Rattle.lent.specs.Words.{enough}
use Rattle.lent.proofs.Laws.{enough_all}
use Rattle.column.specs.Column.{stretch, stacked}

-- the part from n * k to n * k + n has n words
pub part_count : (n k : ℕ) → n * k + n - n * k ≡ n
part_count n k = omega arith

-- word i of stretch k lies within count stretches of n words
pub in_stretch : (n : ℕ) {k count i : ℕ} → k < count → i < n → n * k + i < n * count
in_stretch n {k} {count} {i} h l = omega (arith, mul-suc n k, mul-le-mul_left n h)

pub part_length : (n k : ℕ) (ws : List ℕ) → n * k + n ≤ length ws → length (stretch n k ws) ≡ n
part_length n k ws h = simp (length-take, length-drop) (omega arith)

-- so that a record is read from it whole
pub enough_part : (n k : ℕ) (ws : List ℕ) → n * k + n ≤ length ws → enough n (stretch n k ws) ≡ stretch n k ws
enough_part n k ws h = enough_all n (stretch n k ws) (omega (arith, part_length n k ws h))

pub stretch_length : (n k count : ℕ) (ws : List ℕ) → k < count → length ws ≡ n * count → length (stretch n k ws) ≡ n
stretch_length n k count ws h l = part_length n k ws (omega (arith, mul-suc n k, mul-le-mul_left n h))

-- a word of a stretch is a word of the whole
pub stretch_word : (n k i : ℕ) (ws : List ℕ) → i < n → get_or (stretch n k ws) i 0 ≡ get_or ws (n * k + i) 0
stretch_word n k i ws h = rw (get_or-take, get_or-drop)

pub stacked_ext : (f g : ℕ → List ℕ) (n : ℕ) → ((k : ℕ) → k < n → f k ≡ g k) → stacked f n ≡ stacked g n
stacked_ext f g zero h = refl
stacked_ext f g (suc n) h =
    ap₂ (λ (x y : List ℕ). x ++ y) (stacked_ext f g n (λ k l. h k (omega arith))) (h n (omega arith))

-- n zeros for each slice
pub stacked_zeros : (n count : ℕ) → stacked (λ k. replicate n 0) count ≡ replicate (n * count) 0
stacked_zeros n zero = rw mul-zero
stacked_zeros n (suc count) =
    ap (λ (l : List ℕ). l ++ replicate n 0) (stacked_zeros n count)
    ∙ rw mul-suc (replicate-append-replicate (n * count) n 0)

module _ (f : ℕ → List ℕ) (n : ℕ) (each : (k : ℕ) → length (f k) ≡ n) where
  pub stacked_length : (k : ℕ) → length (stacked f k) ≡ n * k
  stacked_length zero = sym (mul-zero n)
  stacked_length (suc k) = rw (length-append, stacked_length k, each k, mul-suc)

  -- slice k's stretch of what was stacked is f k
  pub stretch_stacked : (k count : ℕ) → k < count → stretch n k (stacked f count) ≡ f k
  stretch_stacked k zero h = absurd (not-suc-le-zero h)
  stretch_stacked k (suc count) h =
      ⊎_elim
      (λ (e : k ≡ count).
      subst (λ (m : ℕ). stretch n k (stacked f m ++ f m) ≡ f k) e
      (rw (drop_at (stacked f k) (f k) (n * k) (stacked_length k)) (take_all n (f k) (omega (arith, each k)))))
      (λ (l : k < count).
      let room : n * k + n ≤ length (stacked f count) = omega (arith, stacked_length count, mul-suc n k, mul-le-mul_left n l) in
      let low : n * k ≤ length (stacked f count) = omega arith in
      let fits : n ≤ length (drop (n * k) (stacked f count)) = simp length-drop (omega arith) in
      rw (drop-append-le (n * k) (stacked f count) (f count) low, take-append-le n (drop (n * k) (stacked f count)) (f count) fits)
      (stretch_stacked k count l))
      (eq-or-lt_of_le (le_of_suc-le-suc h))

  -- word i of slice k of what was stacked
  pub stacked_word : (k count i : ℕ) → k < count → i < n → get_or (stacked f count) (n * k + i) 0 ≡ get_or (f k) i 0
  stacked_word k count i h l =
      sym (stretch_word n k i (stacked f count) l) ∙ ap (λ (xs : List ℕ). get_or xs i 0) (stretch_stacked k count h)

  -- a list of which the first k stretches are written
  module _ (k : ℕ) (old ws : List ℕ) (so_far : ws ≡ stacked f k ++ drop (n * k) old) where
    -- the stretch that is lent next is as it was
    pub lent : stretch n k ws ≡ stretch n k old
    lent = rw (so_far, drop_at (stacked f k) (drop (n * k) old) (n * k) (stacked_length k))

    -- once it is back, one more is written
    pub written : (new : List ℕ) → new ≡ f k →
        take (n * k) ws ++ (new ++ drop n (drop (n * k) ws)) ≡ stacked f (k + 1) ++ drop (n * (k + 1)) old
    written new e =
        rw (
          so_far,
          take_at (stacked f k) (drop (n * k) old) (n * k) (stacked_length k),
          drop_at (stacked f k) (drop (n * k) old) (n * k) (stacked_length k),
          e,
          add-one,
          mul-suc,
          drop-drop,
          append_assoc,
        )

  -- the whole keeps its length
  pub whole : (k count : ℕ) (old : List ℕ) → k ≤ count → length old ≡ n * count → length (stacked f k ++ drop (n * k) old) ≡ n * count
  whole k count old h l = rw (length-append, length-drop, stacked_length k, l) (omega (arith, mul-le-mul_left n h))

  -- all are written
  pub finished : (count : ℕ) (old : List ℕ) → length old ≡ n * count → stacked f count ++ drop (n * count) old ≡ stacked f count
  finished count old h = let l : length old ≤ n * count = omega arith in rw (drop_of_length-le old l, append-nil)
