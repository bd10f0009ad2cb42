-- The one-slice rule leaves the slice's registers, and what it shows is stored where the slice's outputs stood.
use Rattle.std.proofs.Common.{◌≡◌, ℕ, List, length, ◌∙◌, sym, ap, arith}
use Rattle.lent.specs.Words.{stored}
use Rattle.lent.proofs.Laws.{stored_all, enough_all}
use Rattle.records.specs.declared.Attributes.{Attributes}
use Rattle.records.specs.declared.Ports.{Ports}
use Rattle.records.specs.Records.{register_words, output_words, registers_of, registers_words, outputs_words}
use Rattle.slice.specs.declared.inputs.Cascade.{Cascade}
use Rattle.slice.specs.declared.edge.Step.{Step}
use Rattle.slice.specs.Slice.{step_of, slice_next, Stepped}
use Rattle.column.specs.Parts.{Edged}
use Rattle.column.proofs.edge.one_edge.Goals as goal

-- of words that are as many as a slice has
edged : (a : Attributes) (rs : List ℕ) (p : Ports) (x : Cascade) (os : List ℕ) (step : Step) (rs' shown os' : List ℕ)
    → (length rs ≡ register_words) × (length os ≡ output_words)
    → Stepped a rs p x step rs' → shown ≡ outputs_words step.shown → os' ≡ stored os shown
    → Edged a rs p x step.up rs' os'
unfolding step_of
edged a rs p x os step rs' shown os' long stepped words put =
    let read = enough_all register_words rs (omega (arith, long.0)) in
    let given = rw read at stepped.given in
    let next = registers_words (slice_next a (registers_of rs) p x) in
    let kept : rs' ≡ stored rs next = rw read at stepped.registers in
    record {
      hands = ap (λ (t : Step). t.up) given;
      registers = rw (stored_all rs next long.0) at kept;
      outputs = put ∙ stored_all os shown (long.1 ∙ ap length (sym words)) ∙ words ∙ ap (λ (t : Step). outputs_words t.shown) given;
    }

pub returns : goal.returns
returns c =
    edged c.args.a c.args.registers.now c.args.p c.args.below c.args.outputs.now _ _ _ _ c.requires c.stepped-step.ensures
    c.words-shown.ensures c.store.ensures
