-- The player is the one whose numbers are lent.
use Rattle.std.proofs.Common.{◌∙◌, sym, ap, arith}
use Rattle.player.specs.declared.Player.{Player}
use Rattle.player.proofs.Stored.{read_whole}
use Rattle.listing.specs.Steps.{end_of}
use Rattle.listing.proofs.Ending.{ended}
use Rattle.listing.proofs.finish.Goals as goal

pub returns : goal.returns
returns c =
    let six = c.if-numbers-ne-NUMBERS.false in
    let whole = read_whole c.args.numbers.now six c.read-last.ensures in
    let lines = ap (λ (q : Player). q.lines) (sym whole) in
    ended c.args.numbers.now c.args.out.now six (omega (arith, lines, c.if-last.false)) c.end_of.result
    (c.end_of.ensures ∙ ap end_of whole) _ _ c.put.ensures
