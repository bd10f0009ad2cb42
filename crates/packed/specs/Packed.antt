-- The packed run (01, "Packed run"), by the column's own step: what each slice is set to and fed, the registers after each clock, and
-- the top P that each clock shows. Assumes nothing.
use Rattle.std.specs.Prelude.{ℕ, zero, suc, ◌+◌, ◌-◌, ◌*◌, ◌^◌, ◌<◌, cond, ◌&&◌, List, [], ◌∷◌, ◌++◌, leb, ltb, get_or, replicate, ℤ, pos, ◌+ℤ◌, ◌*ℤ◌}
use Rattle.std.specs.Int.Signed.{mag}
use Rattle.word.specs.Word.{word, low_sum, high_sum}
use Rattle.records.specs.declared.Attributes.{Attributes}
use Rattle.records.specs.declared.Ports.{Ports}
use Rattle.records.specs.Records.{register_words, output_words, attributes_words, ports_words, outputs_of}
use Rattle.column.specs.Column.{stretch, stacked, column_shown, after}

-- 02, Ask 6: "10 when terms are not 1 to 8"; 11: "rows not 1 to 4,096"
abbrev pub most_terms : ℕ
most_terms = 8

abbrev pub most_rows : ℕ
most_rows = 4096

-- "Rows of triples (a, d, b), signed 8-bit numbers, in three lent arrays of exactly rows × terms, row by row"
pub record Batch : Type 0 where
  pub terms : ℕ
  pub rows : ℕ
  pub a : List ℤ
  pub d : List ℤ
  pub b : List ℤ

-- a signed 8-bit number
abbrev pub Byte : ℤ → Type 0
Byte z = mag z < 2 ^ 7

abbrev pub batch : (terms rows : ℕ) → (a d b : List ℤ) → Batch
batch terms rows a d b = record { terms = terms; rows = rows; a = a; d = d; b = b }

-- "One slice a term: AREG 1, BREG 2, ACASCREG 1, BCASCREG 2, DREG, ADREG, MREG, PREG, USE_MULT, AMULTSEL 1, all else 0"
abbrev pub setting : Attributes
setting =
    record {
      areg = 1;
      breg = 2;
      acascreg = 1;
      bcascreg = 2;
      a_input = 0;
      b_input = 0;
      creg = 0;
      dreg = 1;
      adreg = 1;
      mreg = 1;
      preg = 1;
      opmodereg = 0;
      alumodereg = 0;
      inmodereg = 0;
      carryinreg = 0;
      carryinselreg = 0;
      use_mult = 1;
      amultsel = 1;
      rnd = 0;
      pattern = 0;
      mask = 0;
      use_simd = 0;
    }

-- "Ports each clock: OPMODE 21, INMODE 4, CE 8191, A = a·2^18 and D = d, B = b in two's complement; others 0"
abbrev pub ports_for : (a d b : ℤ) → Ports
ports_for a d b =
    record {
      a = word 30 (a *ℤ pos (2 ^ 18));
      b = word 18 b;
      c = 0;
      d = word 27 d;
      opmode = 21;
      alumode = 0;
      inmode = 4;
      carryinsel = 0;
      carryin = 0;
      ce = 8191;
      rst = 0;
    }

-- "Slice k gets term k of row j in clock j + k; with no row due it gets zeros": its share of the array xs in clock t, where row t - k is due
unfoldable pub fed : Batch → (xs : List ℤ) → (t k : ℕ) → ℤ
fed g xs t k = cond (leb k t && ltb (t - k) g.rows) (get_or xs ((t - k) * g.terms + k) (pos 0)) (pos 0)

abbrev pub slice_ports : Batch → (t k : ℕ) → Ports
slice_ports g t k = ports_for (fed g g.a t k) (fed g g.d t k) (fed g g.b t k)

-- the column's attributes, and its ports in clock t
unfoldable pub run_attributes : (terms : ℕ) → List ℕ
run_attributes terms = stacked (λ k. attributes_words setting) terms

unfoldable pub run_ports : Batch → (t : ℕ) → List ℕ
run_ports g t = stacked (λ k. ports_words (slice_ports g t k)) g.terms

-- its registers after t clocks "from the cleared column"
unfoldable pub run_registers : Batch → (t : ℕ) → List ℕ
run_registers g t = after g.terms (run_attributes g.terms) (replicate (register_words * g.terms) 0) (run_ports g) t

-- "the top P that each defined step from the cleared column shows": of clock t
unfoldable pub top : Batch → (t : ℕ) → ℕ
top g t =
    (outputs_of
    (stretch output_words (g.terms - 1) (column_shown g.terms (run_attributes g.terms) (run_registers g t) (run_ports g t)))
    ).p

-- "a list of exactly rows + terms + 3 words", "clock 0 first"
abbrev pub run_clocks : (terms rows : ℕ) → ℕ
run_clocks terms rows = rows + terms + 3

unfoldable pub run_list : Batch → List ℕ
run_list g = stacked (λ t. top g t ∷ []) (run_clocks g.terms g.rows)

-- "two signed 32-bit answers a row, high sum (of a·b) then low sum (of d·b)"
unfoldable pub pairs : (high low : ℕ → ℤ) → (rows : ℕ) → List ℤ
pairs high low zero = []
pairs high low (suc n) = pairs high low n ++ (high n ∷ low n ∷ [])

-- "row j's answers are read from the word of clock j + terms + 3"
abbrev pub row_word : (terms : ℕ) → List ℕ → (j : ℕ) → ℕ
row_word terms ws j = get_or ws (j + terms + 3) 0

abbrev pub read_answers : (terms rows : ℕ) → List ℕ → List ℤ
read_answers terms rows ws = pairs (λ j. high_sum (row_word terms ws j)) (λ j. low_sum (row_word terms ws j)) rows

-- the exact dot product of n places of xs and ys from place s on
unfoldable pub dot : (xs ys : List ℤ) → (s n : ℕ) → ℤ
dot xs ys s zero = pos 0
dot xs ys s (suc n) = dot xs ys s n +ℤ get_or xs (s + n) (pos 0) *ℤ get_or ys (s + n) (pos 0)

-- row j's two
abbrev pub high_dot : Batch → (j : ℕ) → ℤ
high_dot g j = dot g.a g.b (j * g.terms) g.terms

abbrev pub low_dot : Batch → (j : ℕ) → ℤ
low_dot g j = dot g.d g.b (j * g.terms) g.terms

-- "A plain run [..] works out both sums directly"
abbrev pub plain_answers : Batch → List ℤ
plain_answers g = pairs (high_dot g) (low_dot g) g.rows
