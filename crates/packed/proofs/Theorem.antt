-- The packed run's theorem: the top P of clock j + terms + 3 is exactly the packed word of row j's two dot products, which are both read
-- back from it exactly where the row is not overfull; no clock of the run is refused; and its clocks are rows + terms + 3. Assumes nothing.
use Prim.Native.Nat.{ℕ, zero, suc, ◌+◌, ◌*◌, ◌%◌, ◌^◌, ◌≤◌, ◌<◌}
use native.Mathlib.Nat.{add-suc, add-zero, le_refl, le_trans, add-le-add, mul-le-mul}
use native.Mathlib.Omega.{arith}
use mathlib.Core.Path.{◌≡◌, refl, sym, ap, ap₂, ◌∙◌}
use mathlib.Core.Bool.{false}
use mathlib.Core.List.{List}
use lib.Dec.{lit<}
use lib.ListN.{length, get_or}
use lib.IntN.{ℤ, pos, nat_abs, ◌+ℤ◌, ◌*ℤ◌, +ℤ_comm}
use lib.Signed.{mag, nat_abs-le}
use Rattle.word.specs.Word.{word, signed, extend, high_sum, low_sum}
use Rattle.word.proofs.Laws.{signed_word, extend_word}
use Rattle.word.proofs.Integers.{word_add, word_foot}
use Rattle.word.proofs.PackedWord.{packed, low_read, high_read}
use Rattle.unit.specs.Unit.{wrapped_sum, true_sum, pre_adder, product}
use Rattle.unit.proofs.PreAdder.{pre_adder_exact}
use Rattle.records.specs.Records.{output_words}
use Rattle.column.specs.Refusals.{accepted as passed, clock_answer}
use Rattle.packed.specs.Packed.{most_terms, Batch, Byte, run_attributes, run_ports, run_registers, top, run_list, row_word, read_answers, dot, high_dot, low_dot, plain_answers}
use Rattle.packed.specs.Calls.{overfull}
use Rattle.packed.proofs.Sizes.{nat_abs_add, nat_abs_mul_le, mag_lt, more_lanes}
use Rattle.packed.proofs.Dots.{Bytes, dot_size}
use Rattle.packed.proofs.LowSums.{low_fits, not_overfull}
use Rattle.packed.proofs.Fed.{fed_term}
use Rattle.packed.proofs.Trace.{below, product_word, trace, four_on, top_shows}
use Rattle.packed.proofs.Fill.{pairs_ext}
use Rattle.packed.proofs.Accepted.{accepted}
use Rattle.packed.proofs.Tops.{list_length, list_word}

-- ---- one product

module _ (a d b : ℤ) (ha : Byte a) (hd : Byte d) (hb : Byte b) where
  multiple_size : nat_abs (a *ℤ pos (2 ^ 18)) ≤ 2 ^ 7 * 2 ^ 18
  multiple_size = nat_abs_mul_le a (pos (2 ^ 18)) {n = 2 ^ 18} (nat_abs-le a ha) (le_refl (2 ^ 18))

  pair_size : nat_abs (packed a d) ≤ 2 ^ 25 + 2 ^ 7
  pair_size = le_trans (nat_abs_add (a *ℤ pos (2 ^ 18)) d) (add-le-add multiple_size (nat_abs-le d hd))

  product_size : nat_abs (packed a d *ℤ b) ≤ (2 ^ 25 + 2 ^ 7) * 2 ^ 7
  product_size = nat_abs_mul_le (packed a d) b pair_size (nat_abs-le b hb)

  -- the pre-adder's word is the packed pair
  pre_added : (pre_adder 0 (word 27 d) (word 30 (a *ℤ pos (2 ^ 18)) % 2 ^ 27)).ad ≡ word 27 (packed a d)
  unfolding pre_adder wrapped_sum
  pre_added =
      ap (λ (n : ℕ). word 27 (pos (word 27 d + n))) (word_foot 3 27 (a *ℤ pos (2 ^ 18)))
      ∙ word_add 27 d (a *ℤ pos (2 ^ 18))
      ∙ ap (word 27) (+ℤ_comm d (a *ℤ pos (2 ^ 18)))

  pair_fits : suc (mag (packed a d)) * 2 ≤ 2 ^ 27
  pair_fits = let h = mag_lt (packed a d) {n = 2 ^ 26} pair_size (lit< tt) in omega arith

  -- its mark is 0, since the pair is the true sum
  pair_true : true_sum 27 0 (word 27 d) (word 30 (a *ℤ pos (2 ^ 18)) % 2 ^ 27) ≡ packed a d
  pair_true =
      ap₂ ◌+ℤ◌ (signed_word 27 d (omega (arith, hd))) (ap (signed 27) (word_foot 3 27 (a *ℤ pos (2 ^ 18))) ∙ signed_word 27 (a *ℤ pos (2 ^ 18)) fits)
      ∙ +ℤ_comm d (a *ℤ pos (2 ^ 18))
    where
      fits : suc (mag (a *ℤ pos (2 ^ 18))) * 2 ≤ 2 ^ 27
      fits = let h = mag_lt (a *ℤ pos (2 ^ 18)) {n = 2 ^ 26} multiple_size (lit< tt) in omega arith

  pub pair_unmarked : (pre_adder 0 (word 27 d) (word 30 (a *ℤ pos (2 ^ 18)) % 2 ^ 27)).wrap ≡ 0
  pair_unmarked =
      (pre_adder_exact 0 (word 27 d) (word 30 (a *ℤ pos (2 ^ 18)) % 2 ^ 27)).1
      (ap (signed 27) pre_added ∙ signed_word 27 (packed a d) pair_fits ∙ sym pair_true)

  -- and the multiplier's word, sign-extended, is the pair's product with b
  multiplied : product_word a d b ≡ word 48 (packed a d *ℤ b)
  unfolding product
  multiplied =
      ap (λ (n : ℕ). extend 45 48 (product n (word 18 b))) pre_added
      ∙ ap₂ (λ (x y : ℤ). extend 45 48 (word 45 (x *ℤ y)))
      (signed_word 27 (packed a d) pair_fits)
      (signed_word 18 b (omega (arith, hb)))
      ∙ extend_word 45 48 (packed a d *ℤ b) (let h = mag_lt (packed a d *ℤ b) {n = 2 ^ 44} product_size (lit< tt) in omega arith)

-- ---- up the cascade

-- the triples of row j are bytes
pub record RowBytes (g : Batch) (j : ℕ) : Type 0 where
  pub a : Bytes g.a (j * g.terms) g.terms
  pub d : Bytes g.d (j * g.terms) g.terms
  pub b : Bytes g.b (j * g.terms) g.terms

module _ (g : Batch) (j : ℕ) (in_rows : j < g.rows) (bytes : RowBytes g j) where
  -- the sums of the first k terms of row j, and term k
  abbrev high : (k : ℕ) → ℤ
  high k = dot g.a g.b (j * g.terms) k

  abbrev low : (k : ℕ) → ℤ
  low k = dot g.d g.b (j * g.terms) k

  abbrev term : List ℤ → (k : ℕ) → ℤ
  term xs k = get_or xs (j * g.terms + k) (pos 0)

  -- what slice k gets from below in clock j + k + 3 is both sums of the terms below it
  cascaded : (k : ℕ) → k ≤ g.terms → (below (trace g (suc (suc (suc (j + k))))) k).p ≡ word 48 (packed (high k) (low k))
  unfolding dot
  cascaded zero h = refl
  cascaded (suc k) h =
      let a = term g.a k in
      let d = term g.d k in
      let b = term g.b k in
      rw (
        add-suc j k,
        four_on g (j + k) k,
        cascaded k (omega arith),
        add-zero,
        add-zero,
        add-zero,
        fed_term g g.a j k in_rows,
        fed_term g g.d j k in_rows,
        fed_term g g.b j k in_rows,
        multiplied a d b (bytes.a k h) (bytes.d k h) (bytes.b k h),
      )
      (word_add 48 (packed (high k) (low k)) (packed a d *ℤ b) ∙ ap (word 48) (more_lanes (2 ^ 18) (high k) (low k) a d b))

-- ---- the theorem

-- p is the packed word of two sums, so nothing else is in it, and both are read back from it
pub record Exact (p : ℕ) (high low : ℤ) : Type 0 where
  pub packs : p ≡ word 48 (packed high low)
  pub high_is : high_sum p ≡ high
  pub low_is : low_sum p ≡ low

exact : (p : ℕ) (high low : ℤ) → p ≡ word 48 (packed high low) → nat_abs high ≤ most_terms * 2 ^ 14 → mag low < 2 ^ 17 → Exact p high low
exact p high low e h l =
    let mh = mag_lt high {n = 2 ^ 28} h (lit< tt) in
    record { packs = e; high_is = ap high_sum e ∙ high_read high low mh l; low_is = ap low_sum e ∙ low_read high low mh l }

-- the whole run: for any number of rows, so for 1 to 4,096
pub record PackedRun (g : Batch) : Type 0 where
  -- every row's two exact dot products stand in the top P of clock j + terms + 3, and no term of another row is in it
  pub row : (j : ℕ) → j < g.rows → Exact (top g (j + g.terms + 3)) (high_dot g j) (low_dot g j)
  -- every clock is accepted
  pub clock_accepted : (t : ℕ) (os : List ℕ) → length os ≡ output_words * g.terms
      → clock_answer g.terms (run_attributes g.terms) (run_registers g t) (run_ports g t) os ≡ passed
  -- the clocks are rows + terms + 3, and the list has one word for each
  pub clocks : length (run_list g) ≡ g.rows + g.terms + 3
  pub word_of_lem : (t : ℕ) → t < g.rows + g.terms + 3 → get_or (run_list g) t 0 ≡ top g t
  -- so what is read off the list is every row's two dot products
  pub answers : read_answers g.terms g.rows (run_list g) ≡ plain_answers g

module _ (g : Batch) (some : 1 ≤ g.terms) (most : g.terms ≤ most_terms) where
  -- a row's two sums are exact in its word if and only if it is not overfull
  pub packed_row : (j : ℕ) → j < g.rows → RowBytes g j
      → (overfull g j ≡ false → Exact (top g (j + g.terms + 3)) (high_dot g j) (low_dot g j))
      × (Exact (top g (j + g.terms + 3)) (high_dot g j) (low_dot g j) → overfull g j ≡ false)
  packed_row j in_rows bytes = (
    λ fits.
        exact _ (high_dot g j) (low_dot g j)
        (rw e (top_shows g _ some ∙ cascaded g j in_rows bytes g.terms (le_refl g.terms)))
        (le_trans (dot_size g.a g.b (j * g.terms) g.terms bytes.a bytes.b) (mul-le-mul most (le_refl (2 ^ 14))))
        (low_fits g j most bytes.d bytes.b fits),
    λ read. not_overfull g j (top g (j + g.terms + 3)) read.low_is,
  )
    where
      e : j + g.terms + 3 ≡ suc (suc (suc (j + g.terms)))
      e = omega arith

  pub packed_run : ((j : ℕ) → j < g.rows → RowBytes g j) → ((j : ℕ) → j < g.rows → overfull g j ≡ false) → PackedRun g
  packed_run bytes fit =
      record {
        row = row;
        clock_accepted = λ t os room. accepted g t os some most room;
        clocks = list_length g;
        word_of_lem = list_word g;
        answers = pairs_ext _ _ _ _ g.rows each;
      }
    where
      row : (j : ℕ) → j < g.rows → Exact (top g (j + g.terms + 3)) (high_dot g j) (low_dot g j)
      row j h = (packed_row j h (bytes j h)).0 (fit j h)

      each : (j : ℕ) → j < g.rows
          → (high_sum (row_word g.terms (run_list g) j) ≡ high_dot g j) × (low_sum (row_word g.terms (run_list g) j) ≡ low_dot g j)
      each j h =
          let e = list_word g (j + g.terms + 3) (omega arith) in
          (ap high_sum e ∙ (row j h).high_is, ap low_sum e ∙ (row j h).low_is)
