-- A clock of the run is one defined step of the column, and a run of them fills the list with the top P of each. Assumes nothing.
use Prim.Native.Nat.{ℕ, ◌+◌, ◌-◌, ◌*◌, ◌≤◌, ◌<◌}
use mathlib.Core.Path.{◌≡◌, refl, sym, ap, ◌∙◌}
use mathlib.Core.List.{List, []}
use native.Mathlib.Nat.{mul-le-mul_left}
use Rattle.std.specs.List.{flat_map}
use Rattle.std.proofs.lemmas.List.{take-replicate, get_or-replicate}
use native.Mathlib.Nat.{add-zero}
use native.Mathlib.Numerals.{add-one}
use native.Mathlib.Omega.{arith}
use lib.Dec.{lit<}
use lib.ListN.{length, get_or, take, set, replicate, length-replicate}
use lib.Seq.{take-suc-set, take_all}
use borrow.Author.Count.{below_none, below_more}
use Rattle.records.specs.Records.{register_words, output_words, attributes_words}
use Rattle.column.specs.Column.{column_shown, column_next, after}
use Rattle.column.specs.Refusals.{Answer, accepted as passed, clock_answer}
use Rattle.column.specs.Calls.{Clocked}
use Rattle.column.proofs.Stacks.{stacked_length, stretch_word}
use Rattle.column.proofs.Edges.{shown_length}
use Rattle.packed.specs.Packed.{most_terms, Batch, setting, run_attributes, run_ports, run_registers, top, run_clocks, run_list}
use Rattle.packed.specs.Parts.{Ready, FedBytes, ColumnFed, Standing, OneStep, Stepped}
use Rattle.packed.proofs.Tops.{tops, list_length}
use Rattle.packed.proofs.Fill.{flattened}
use Rattle.packed.proofs.Accepted.{accepted}

-- ---- the words of as many slices as there are terms, of those that are set and cleared for as many as a run can have

pub set_for_all : (terms : ℕ) → terms ≤ most_terms
    → flat_map (λ (xs : List ℕ). xs) (take terms (replicate most_terms (attributes_words setting))) ≡ run_attributes terms
unfolding run_attributes
set_for_all terms h =
    let words = attributes_words setting in
    rw (take-replicate terms most_terms words h)
    (flattened (λ k. words) (replicate terms words) terms (length-replicate terms words) (λ k l. get_or-replicate terms k words [] l))

module _ (g : Batch) where
  pub cleared : g.terms ≤ most_terms → take (register_words * g.terms) (replicate (register_words * most_terms) 0) ≡ run_registers g 0
  unfolding run_registers after
  cleared h = take-replicate (register_words * g.terms) (register_words * most_terms) 0 (mul-le-mul_left register_words h)

  -- ---- one clock

  module _ (ready : Ready g) (t : ℕ) (at rs ps os : List ℕ) (was : Standing g t at rs os) (fed : ColumnFed g t ps)
      (a : Answer) (rs' os' : List ℕ) (clocked : Clocked g.terms at rs ps os a rs' os') where
    passes : clock_answer g.terms at rs ps os ≡ passed
    passes = rw (was.attributes, was.registers, fed.ports) (accepted g t os ready.some ready.most was.outputs)

    next : rs' ≡ column_next g.terms (run_attributes g.terms) (run_registers g t) (run_ports g t)
    next = rw (passes, was.attributes, was.registers, fed.ports) at clocked.registers

    shown : os' ≡ column_shown g.terms (run_attributes g.terms) (run_registers g t) (run_ports g t)
    shown = rw (passes, was.attributes, was.registers, fed.ports) at clocked.outputs

    shown_long : length os' ≡ output_words * g.terms
    unfolding column_shown
    shown_long = ap length shown ∙ stacked_length _ output_words (shown_length _ _ _) g.terms

    top_is : get_or os' (output_words * (g.terms - 1)) 0 ≡ top g t
    unfolding top
    top_is = rw (← shown) (sym (rw add-zero at (stretch_word output_words (g.terms - 1) 0 os' (lit< tt))))

    pub steps : OneStep g t at rs' os' (get_or os' (output_words * (g.terms - 1)) 0)
    unfolding run_registers after
    steps = record { shown = top_is; next = record { attributes = was.attributes; registers = next; outputs = shown_long }; bytes = fed.bytes }

  -- ---- all of them

  -- the first t words of the list have the top P of each clock
  pub record Going (t : ℕ) (at rs os ws : List ℕ) : Type 0 where
    pub standing : Standing g t at rs os
    pub done : take t ws ≡ tops g t
    pub bytes : (i : ℕ) → i < t → (k : ℕ) → k < g.terms → FedBytes g i k

  pub starts : {at rs os ws : List ℕ} → Standing g 0 at rs os → Going 0 at rs os ws
  starts s = record { standing = s; done = refl; bytes = below_none _ }

  pub goes : {t p : ℕ} {at rs os rs' os' ws : List ℕ} → t < length ws → Going t at rs os ws → OneStep g t at rs' os' p → Going (t + 1) at rs' os' (set ws t p)
  goes {t} {p} {ws = ws} turn was s =
      record {
        standing = rw add-one s.next;
        done = rw (add-one, take-suc-set, was.done, s.shown);
        bytes = below_more (λ i. (k : ℕ) → k < g.terms → FedBytes g i k) t was.bytes s.bytes;
      }

  pub ends : {t : ℕ} {at rs os ws : List ℕ} → length ws ≡ run_clocks g.terms g.rows → t ≡ length ws → Going t at rs os ws → Stepped g t ws
  unfolding run_list
  ends {t} {ws = ws} long h was =
      let e : t ≡ run_clocks g.terms g.rows = omega arith in
      let whole : length ws ≤ t = omega arith in
      record {
        count = e ∙ sym (list_length g);
        list = sym (take_all t ws whole) ∙ was.done ∙ ap (tops g) e;
        bytes = λ i l. was.bytes i (omega arith);
      }
