-- The test is the definition's, and the run is the machine's.
use Rattle.std.proofs.Common.{length, not, sym, ap, subst}
use Rattle.player.specs.declared.Player.{Player}
use Rattle.player.proofs.Stored.{read_whole, stored_whole}
use Rattle.listing.specs.Calls.{lending}
use Rattle.listing.specs.Parts.{Able}
use Rattle.listing.proofs.Calling.{fit_of, not_played, piece_played, whole_array, same_play}
use Rattle.listing.proofs.play.Goals as goal

pub returns-then-not-fits : goal.returns-then-not-fits
returns-then-not-fits c =
    let a = c.args in
    let lent = lending a.numbers.now a.attributes.now a.registers.now a.ports.now a.outputs.now a.line.now in
    not_played a.piece.now lent a.out.now c.fits.result c.fits.ensures (ap not c.if-not-fits.true) c.default.result c.default.ensures

pub unwrap-requires : goal.unwrap-requires
unwrap-requires c = c.as_mut_array.ensures.variant.1 (fit_of c.fits.ensures c.if-not-fits.false).frames.words.attributes

pub unwrap-requires-2 : goal.unwrap-requires-2
unwrap-requires-2 c = c.as_mut_array-2.ensures.variant.1 (fit_of c.fits.ensures c.if-not-fits.false).frames.words.registers

pub unwrap-requires-3 : goal.unwrap-requires-3
unwrap-requires-3 c = c.as_mut_array-3.ensures.variant.1 (fit_of c.fits.ensures c.if-not-fits.false).frames.words.ports

pub unwrap-requires-4 : goal.unwrap-requires-4
unwrap-requires-4 c = c.as_mut_array-4.ensures.variant.1 (fit_of c.fits.ensures c.if-not-fits.false).frames.words.outputs

pub unwrap-requires-5 : goal.unwrap-requires-5
unwrap-requires-5 c = c.as_mut_array-5.ensures.variant.1 (fit_of c.fits.ensures c.if-not-fits.false).frames.line

pub run_piece-used-requires : goal.run_piece-used-requires
run_piece-used-requires c =
    let fit = fit_of c.fits.ensures c.if-not-fits.false in
    subst (λ (q : Player). Able q (length c.args.piece.now)) (sym (read_whole c.args.numbers.now fit.numbers c.read-begin.ensures)) fit.able

pub returns : goal.returns
returns c =
    let a = c.args in
    let lent = lending a.numbers.now a.attributes.now a.registers.now a.ports.now a.outputs.now a.line.now in
    let fit = fit_of c.fits.ensures c.if-not-fits.false in
    let begins = read_whole a.numbers.now fit.numbers c.read-begin.ensures in
    let ran =
    same_play (whole_array _ _ c.unwrap.ensures c.as_mut_array.ensures.cases)
    (whole_array _ _ c.unwrap-2.ensures c.as_mut_array-2.ensures.cases) (whole_array _ _ c.unwrap-3.ensures c.as_mut_array-3.ensures.cases)
    (whole_array _ _ c.unwrap-4.ensures c.as_mut_array-4.ensures.cases) (whole_array _ _ c.unwrap-5.ensures c.as_mut_array-5.ensures.cases)
    c.run_piece-used.ensures in
    piece_played a.piece.now lent a.out.now c.fits.result c.fits.ensures (ap not c.if-not-fits.false) _ c.run_piece-used.result _ _ _ _ _ _ _ _
    begins ran (stored_whole a.numbers.now fit.numbers c.run_piece-used.result.player c.store.ensures) c.is_working.ensures
