-- No clock of a packed run is refused. Assumes nothing.
use Prim.Native.Nat.{ℕ, zero, suc, ◌*◌, ◌≤◌, ◌<◌, ◌^◌}
use native.Mathlib.Nat.{le_trans}
use mathlib.Core.Path.{◌≡◌, refl}
use mathlib.Core.Bool.{false}
use mathlib.Core.List.{List}
use lib.Dec.{lit<, lit≤}
use lib.ListN.{length, length-replicate}
use lib.IntN.{ℤ, pos, ◌*ℤ◌}
use borrow.Author.Tests.{le-leb, eq-eqb}
use Rattle.word.proofs.Laws.{word_lt}
use Rattle.records.specs.Records.{attribute_words, register_words, port_words, output_words, register_widths, port_widths, exceeds, ports_words}
use Rattle.slice.specs.Slice.{controls_of, selects_of}
use Rattle.legal.specs.Legal.{off_list, bad_inmode, bad_opmode, bad_alumode, bad_carryinsel, breaks}
use Rattle.column.specs.declared.Check.{Check}
use Rattle.column.specs.Column.{stretch, column_next, after}
use Rattle.column.specs.Refusals.{accepted as passed, broken, fails, settings, lengths_fit, clock_answer}
use Rattle.column.proofs.Search.{none_lowest}
use Rattle.column.proofs.Answers.{each_check, none_fails}
use Rattle.records.proofs.Fits.{Fit, none, more, fit_within}
use Rattle.column.proofs.Fits.{column_within, cleared_within}
use Rattle.column.proofs.Stacks.{stacked_length}
use Rattle.column.proofs.Edges.{next_length}
use Rattle.packed.specs.Packed.{most_terms, Batch, ports_for, fed, run_attributes, run_ports, run_registers}
use Rattle.packed.proofs.Trace.{attributes_part, ports_part}

attributes_length : (n : ℕ) → length (run_attributes n) ≡ attribute_words * n
unfolding run_attributes
attributes_length n = stacked_length _ attribute_words (λ k. refl) n

ports_fit : (a d b : ℤ) → Fit port_widths (ports_words (ports_for a d b))
ports_fit a d b =
    more (word_lt 30 (a *ℤ pos (2 ^ 18))) (more (word_lt 18 b) (more (lit< tt) (more (word_lt 27 d) (more (lit< tt) (more (lit< tt)
    (more (lit< tt) (more (lit< tt) (more (lit< tt) (more (lit< tt) (more (lit< tt) none))))))))))

module _ (g : Batch) where
  -- slice k fails no check, where its registers are within their widths: no control register is in effect
  passes : (rs : List ℕ) (t k : ℕ) → k < g.terms → exceeds register_widths (stretch register_words k rs) ≡ false
      → (check : Check) → fails check (run_attributes g.terms) rs (run_ports g t) k ≡ false
  unfolding fails broken breaks exceeds off_list bad_inmode bad_opmode bad_alumode bad_carryinsel controls_of selects_of
  passes rs t k h within =
      rw (attributes_part g.terms k h, ports_part g t k h)
      (each_check _ refl within (fit_within (ports_fit (fed g g.a t k) (fed g g.d t k) (fed g g.b t k))) refl refl refl refl)

  settings_pass : (rs : List ℕ) (t : ℕ) → ((k : ℕ) → k < g.terms → exceeds register_widths (stretch register_words k rs) ≡ false)
      → settings g.terms (run_attributes g.terms) rs (run_ports g t) ≡ passed
  settings_pass rs t within =
      none_fails g.terms (run_attributes g.terms) rs (run_ports g t)
      (λ check. none_lowest (fails check _ _ _) g.terms (λ k h. passes rs t k h (within k h) check))

  -- so, clock after clock, no register exceeds its width
  within : (t k : ℕ) → k < g.terms → exceeds register_widths (stretch register_words k (run_registers g t)) ≡ false
  unfolding run_registers after
  within zero k h = cleared_within k g.terms h
  within (suc t) k h = column_within g.terms _ _ (run_ports g t) (settings_pass _ t (within t)) k h

  pub registers_length : (t : ℕ) → length (run_registers g t) ≡ register_words * g.terms
  unfolding run_registers after column_next
  registers_length zero = length-replicate (register_words * g.terms) 0
  registers_length (suc t) = stacked_length _ register_words (next_length _ _ _) g.terms

  pub ports_length : (t : ℕ) → length (run_ports g t) ≡ port_words * g.terms
  unfolding run_ports
  ports_length t = stacked_length _ port_words (λ k. refl) g.terms

  pub accepted : (t : ℕ) (os : List ℕ) → 1 ≤ g.terms → g.terms ≤ most_terms → length os ≡ output_words * g.terms
      → clock_answer g.terms (run_attributes g.terms) (run_registers g t) (run_ports g t) os ≡ passed
  unfolding clock_answer lengths_fit
  accepted t os some most room =
      rw (
        le-leb 1 g.terms some,
        le-leb g.terms 24 (le_trans most (lit≤ tt)),
        eq-eqb _ _ (attributes_length g.terms),
        eq-eqb _ _ (registers_length t),
        eq-eqb _ _ (ports_length t),
        eq-eqb _ _ room,
      )
      (settings_pass _ t (within t))
