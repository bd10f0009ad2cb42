-- The border for C (01, "Adder call for the C bench", and the other calls alike): every call on plain numbers and lent words, and one
-- rule for refusals, of which the adder's two are the place 0. A slice passes as a pointer and a length. Assumes nothing.
use Rattle.std.specs.Prelude.{ℕ, ◌+◌, ◌*◌, ◌^◌, ◌≡◌, Bool, cond, ◌||◌, List, eqb, ℤ, length, replicate, Err}
use Rattle.std.specs.Result.{result_unwrap_or}
use Rattle.std.proofs.Common.{◌∙◌, sym}
use Rattle.lent.specs.Words.{stored}
use Rattle.lent.specs.Refusing.{unless, leaves}
use Rattle.reason.specs.Reason.{why_words, no_reason, reason_words}
use Rattle.records.specs.Records.{register_words}
use Rattle.column.specs.declared.Refusal.TheVariants.{BadLength}
use Rattle.column.specs.Column.{column_shown, column_next}
use Rattle.column.specs.Refusals.{Answer, number_of, place_of, clock_answer, clear_answer, why_answer}
use Rattle.column.specs.Calls.{why_of}
use Rattle.packed.specs.Packed.{Batch, run_list, read_answers, plain_answers}
use Rattle.packed.specs.Calls.{Run, number_of as run_number, place_of as run_place, clocks_of, clocked_run, plain_run}

-- a refusal: 2^48, 256 for each slice (of a packed run each row) below the one reported, and the number
abbrev pub refusal : (place number : ℕ) → ℕ
refusal place number = 2 ^ 48 + 256 * place + number

-- the returned word of an answer: 0 when accepted
unfoldable pub word_of : Answer → ℕ
word_of a = cond (eqb (number_of a) 0) 0 (refusal (place_of a) (number_of a))

-- `dsp_clock`: the returned word r, the registers rs' and the outputs os' at exit
pub record ClockedC (count : ℕ) (at rs ps os : List ℕ) (r : ℕ) (rs' os' : List ℕ) : Type 0 where
  pub word : r ≡ word_of (clock_answer count at rs ps os)
  pub registers : rs' ≡ leaves (number_of (clock_answer count at rs ps os)) (column_next count at rs ps) rs
  pub outputs : os' ≡ leaves (number_of (clock_answer count at rs ps os)) (column_shown count at rs ps) os

-- `dsp_clear`
pub record ClearedC (count : ℕ) (rs : List ℕ) (r : ℕ) (rs' : List ℕ) : Type 0 where
  pub word : r ≡ word_of (clear_answer count rs)
  pub registers : rs' ≡ leaves (number_of (clear_answer count rs)) (replicate (register_words * count) 0) rs

-- `why` is lent as many words as a reason has; another length is number 2, which only 1 comes before (02, Ask 3: "after 2")
unfoldable pub why_lent : (fits : Bool) → Answer → Answer
why_lent fits a = unless (fits || eqb (number_of a) 1) (Err BadLength) a

-- `dsp_why` of slice k, with the lent words ws: the words of the reason, which are zeros where refused, if there is room for exactly them
pub record WhyC (count : ℕ) (at rs ps : List ℕ) (k : ℕ) (ws : List ℕ) (r : ℕ) (ws' : List ℕ) : Type 0 where
  pub word : r ≡ word_of (why_lent (eqb (length ws) why_words) (why_answer count at rs ps k))
  pub why : ws' ≡ stored ws (reason_words (result_unwrap_or (why_of count at rs ps k) no_reason))

-- the returned word of a packed run: the clocks it stepped, which are 0 for the plain run
unfoldable pub run_word : Run → ℕ
run_word run = cond (eqb (run_number run) 0) (clocks_of run) (refusal (run_place run) (run_number run))

-- `dsp_packed_clocked`, of the lent answers os and the lent list ws
pub record ClockedRunC (g : Batch) (os : List ℤ) (ws : List ℕ) (r : ℕ) (os' : List ℤ) (ws' : List ℕ) : Type 0 where
  pub word : r ≡ run_word (clocked_run g os ws)
  pub list : ws' ≡ leaves (run_number (clocked_run g os ws)) (run_list g) ws
  pub answers : os' ≡ leaves (run_number (clocked_run g os ws)) (read_answers g.terms g.rows (run_list g)) os
  pub exact : os' ≡ leaves (run_number (clocked_run g os ws)) (plain_answers g) os

-- `dsp_packed_plain`
pub record PlainRunC (g : Batch) (os : List ℤ) (r : ℕ) (os' : List ℤ) : Type 0 where
  pub word : r ≡ run_word (plain_run g os)
  pub answers : os' ≡ leaves (run_number (plain_run g os)) (plain_answers g) os

-- no second outcome fits
pub one_clock : {count : ℕ} {at rs ps os : List ℕ} {r₁ r₂ : ℕ} {rs₁ rs₂ os₁ os₂ : List ℕ}
    → ClockedC count at rs ps os r₁ rs₁ os₁ → ClockedC count at rs ps os r₂ rs₂ os₂ → (r₁ ≡ r₂) × (rs₁ ≡ rs₂) × (os₁ ≡ os₂)
one_clock a b = (a.word ∙ sym b.word, a.registers ∙ sym b.registers, a.outputs ∙ sym b.outputs)

pub one_clear : {count : ℕ} {rs : List ℕ} {r₁ r₂ : ℕ} {rs₁ rs₂ : List ℕ}
    → ClearedC count rs r₁ rs₁ → ClearedC count rs r₂ rs₂ → (r₁ ≡ r₂) × (rs₁ ≡ rs₂)
one_clear a b = (a.word ∙ sym b.word, a.registers ∙ sym b.registers)

pub one_why : {count : ℕ} {at rs ps : List ℕ} {k : ℕ} {ws : List ℕ} {r₁ r₂ : ℕ} {ws₁ ws₂ : List ℕ}
    → WhyC count at rs ps k ws r₁ ws₁ → WhyC count at rs ps k ws r₂ ws₂ → (r₁ ≡ r₂) × (ws₁ ≡ ws₂)
one_why a b = (a.word ∙ sym b.word, a.why ∙ sym b.why)

pub one_clocked_run : {g : Batch} {os : List ℤ} {ws : List ℕ} {r₁ r₂ : ℕ} {os₁ os₂ : List ℤ} {ws₁ ws₂ : List ℕ}
    → ClockedRunC g os ws r₁ os₁ ws₁ → ClockedRunC g os ws r₂ os₂ ws₂ → (r₁ ≡ r₂) × (os₁ ≡ os₂) × (ws₁ ≡ ws₂)
one_clocked_run a b = (a.word ∙ sym b.word, a.answers ∙ sym b.answers, a.list ∙ sym b.list)

pub one_plain_run : {g : Batch} {os : List ℤ} {r₁ r₂ : ℕ} {os₁ os₂ : List ℤ}
    → PlainRunC g os r₁ os₁ → PlainRunC g os r₂ os₂ → (r₁ ≡ r₂) × (os₁ ≡ os₂)
one_plain_run a b = (a.word ∙ sym b.word, a.answers ∙ sym b.answers)
