-- The tests are the definition's.
use Rattle.std.proofs.Common.{◌∙◌, sym, ap, arith}
use Rattle.listing.specs.Steps.{goes_on}
use Rattle.listing.proofs.Faults.{accepted_step, refused_step}
use Rattle.listing.proofs.Groups.{malformed_step, one_of_step, last_step, settings_in}
use Rattle.listing.proofs.lines.take_settings.Goals as goal

pub returns-then-not-read_settings : goal.returns-then-not-read_settings
returns-then-not-read_settings c =
    let read = settings_in c.requires.given c.told-attributes c.read_settings.ensures in
    record { words = read.words; step = sym (malformed_step _ _ _ (read.well ∙ c.if-not-read_settings.true)) }

pub returns-then-q-count : goal.returns-then-q-count
returns-then-q-count c =
    let read = settings_in c.requires.given c.told-attributes c.read_settings.ensures in
    let well = read.well ∙ c.if-not-read_settings.false in
    record {
      words = read.words;
      step = c.quiet.ensures ∙ ap goes_on c.after_slice.ensures ∙ sym (one_of_step _ _ _ well c.if-q-count.true);
    }

pub returns-in_err-attributes_answer : goal.returns-in_err-attributes_answer
returns-in_err-attributes_answer c =
    let read = settings_in c.requires.given c.told-attributes c.read_settings.ensures in
    let well = read.well ∙ c.if-not-read_settings.false in
    record {
      words = read.words;
      step =
          refused_step c.args.q _ _ c.from_residual.result c.in_err-attributes_answer.ensures c.from_residual.ensures.1
          ∙ sym (last_step _ _ _ well (omega (arith, c.if-q-count.false)));
    }

pub returns : goal.returns
returns c =
    let read = settings_in c.requires.given c.told-attributes c.read_settings.ensures in
    let well = read.well ∙ c.if-not-read_settings.false in
    record {
      words = read.words;
      step =
          c.quiet-2.ensures
          ∙ ap goes_on c.clocking.ensures
          ∙ accepted_step c.args.q _ _ c.in_ok-attributes_answer.ensures
          ∙ sym (last_step _ _ _ well (omega (arith, c.if-q-count.false)));
    }
