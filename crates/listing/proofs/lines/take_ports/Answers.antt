-- The tests are the definition's, and the clock is the column's own on the words of its slices.
use Rattle.std.proofs.Common.{◌∙◌, ◌+◌, ◌*◌, ◌++◌, drop, sym, ap, arith}
use borrow.Author.Tests.{lt-leb}
use Rattle.records.specs.Records.{output_words}
use Rattle.event.specs.declared.Event.TheVariants.{Clocked}
use Rattle.player.specs.declared.Player.{Player}
use Rattle.listing.specs.Steps.{goes_on, shown_step}
use Rattle.listing.proofs.Clocks.{clock_taken}
use Rattle.listing.proofs.Faults.{accepted_step, refused_step}
use Rattle.listing.proofs.Groups.{malformed_step, one_of_step, ports_in, read_well}
use Rattle.listing.proofs.lines.take_ports.Goals as goal

pub returns-then-not-line : goal.returns-then-not-line
returns-then-not-line c =
    let read = ports_in c.requires.fair.given c.told-ports c.line.ensures in
    let well = read.well ∙ c.if-not-line.true in
    record { ports = read.words; step = sym (malformed_step _ _ _ well); registers = rw well; outputs = rw well }

pub returns-then-q-slices : goal.returns-then-q-slices
returns-then-q-slices c =
    let a = c.args in
    let read = ports_in c.requires.fair.given c.told-ports c.line.ensures in
    let well = read.well ∙ c.if-not-line.false in
    let more = lt-leb a.q.count (a.q.given + 1) c.if-q-slices.true in
    record {
      ports = read.words;
      step = c.quiet.ensures ∙ ap goes_on c.after_slice.ensures ∙ sym (one_of_step _ _ _ well c.if-q-slices.true);
      registers = rw (well, more);
      outputs = rw (well, more);
    }

pub returns-in_err-clock : goal.returns-in_err-clock
returns-in_err-clock c =
    let a = c.args in
    let read = ports_in c.requires.fair.given c.told-ports c.line.ensures in
    clock_taken a.q a.line.now a.attributes.now a.registers.now a.ports.now a.outputs.now _ c.requires.fair.count c.told-registers c.told-outputs
    (read_well read c.if-not-line.false) (omega (arith, c.if-q-slices.false)) c.clock.result _ _ c.clock.auto.registers
    c.clock.auto.outputs c.clock.ensures _ (refused_step a.q _ _ c.from_residual.result (sym c.in_err-clock.was) c.from_residual.ensures.1)

pub returns : goal.returns
returns c =
    let a = c.args in
    let read = ports_in c.requires.fair.given c.told-ports c.line.ensures in
    let outputs = c.clock.new.outputs ++ drop (output_words * a.q.count) a.outputs.now in
    clock_taken a.q a.line.now a.attributes.now a.registers.now a.ports.now a.outputs.now _ c.requires.fair.count c.told-registers c.told-outputs
    (read_well read c.if-not-line.false) (omega (arith, c.if-q-slices.false)) c.clock.result _ _ c.clock.auto.registers
    c.clock.auto.outputs c.clock.ensures _
    (c.shown.ensures
    ∙ ap (λ (p : Player). shown_step (record { player = p; event = Clocked a.q.clocks }) outputs) c.after_clock.ensures
    ∙ accepted_step a.q _ _ (sym c.in_ok-clock.was))
