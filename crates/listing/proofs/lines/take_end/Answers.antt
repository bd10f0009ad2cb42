-- The test is the definition's, and each kind of line has its own function.
use Rattle.std.proofs.Common.{◌∙◌, ap}
use borrow.Author.Tests.{ne_eqb, eq-eqb}
use Rattle.listing.specs.declared.steps.Step.{Step}
use Rattle.listing.specs.Listing.{leaving, byte_turn}
use Rattle.listing.proofs.Groups.{line_turned, settings_left, ports_left}
use Rattle.listing.proofs.lines.take_end.Goals as goal

pub returns-then-b-ne-NEWLINE : goal.returns-then-b-ne-NEWLINE
unfolding byte_turn
returns-then-b-ne-NEWLINE c =
    rw (
      c.requires.works,
      ne_eqb _ _ c.if-b-ne-NEWLINE.true,
      eq-eqb _ _ (c.requires.full c.if-b-ne-NEWLINE.true),
      c.refused.ensures,
    )

pub returns-in-Head : goal.returns-in-Head
returns-in-Head c =
    let a = c.args in
    line_turned a.q c.after_line-counted.result a.b a.line.now a.attributes.now a.registers.now a.ports.now a.outputs.now _ _
    c.requires.works c.if-b-ne-NEWLINE.false c.in-Head.is c.after_line-counted.ensures
    (ap (λ (s : Step). leaving s a.attributes.now a.registers.now a.ports.now a.outputs.now) (c.outcome.ensures ∙ c.take_head.ensures))

pub returns-in-Settings : goal.returns-in-Settings
returns-in-Settings c =
    let a = c.args in
    line_turned a.q c.after_line-counted.result a.b a.line.now a.attributes.now a.registers.now a.ports.now a.outputs.now _ _
    c.requires.works c.if-b-ne-NEWLINE.false c.in-Settings.is c.after_line-counted.ensures
    (ap (λ (s : Step). leaving s c.take_settings.new.attributes a.registers.now a.ports.now a.outputs.now) c.outcome-in-Settings.ensures
    ∙ settings_left c.after_line-counted.result _ a.attributes.now a.registers.now a.ports.now a.outputs.now _ _ c.take_settings.ensures)

pub returns-in-Clocks : goal.returns-in-Clocks
returns-in-Clocks c =
    let a = c.args in
    line_turned a.q c.after_line-counted.result a.b a.line.now a.attributes.now a.registers.now a.ports.now a.outputs.now _ _
    c.requires.works c.if-b-ne-NEWLINE.false c.in-Clocks.is c.after_line-counted.ensures
    (ap (λ (s : Step). leaving s a.attributes.now c.take_ports.new.registers c.take_ports.new.ports c.take_ports.new.outputs) c.outcome-in-Clocks.ensures
    ∙ ports_left c.after_line-counted.result _ a.attributes.now a.registers.now a.ports.now a.outputs.now _ _ _ _ c.take_ports.ensures)
