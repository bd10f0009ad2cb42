-- `packed::packed_clocked`: a refusal leaves every word, and else the list is the run's and the answers are read off it. Assumes nothing.
use Rattle.std.proofs.Common.{◌∙◌, sym, ap, length, Ok}
use Rattle.std.proofs.lemmas.Result.{err_from_is_err_and}
use borrow.Author.Tests.{eqb-true}
use Rattle.packed.specs.Packed.{batch, run_list}
use Rattle.packed.specs.Calls.{clocked_run}
use Rattle.packed.proofs.Passing.{ran_sized, looked_passed, size_refusal, row_refusal, clocked_refused}
use Rattle.packed.proofs.Tops.{list_length}
use Rattle.packed.proofs.Agree.{exact_answers}
use Rattle.packed.proofs.packed_clocked.Goals as goal

pub returns-in_err-run_answer : goal.returns-in_err-run_answer
unfolding clocked_run
returns-in_err-run_answer c =
    let p = err_from_is_err_and c.from_residual.result c.from_residual.ensures.1 in
    rw (p.1, p.2) (clocked_refused (size_refusal _ _ _ (length (run_list _)) c.in_err-run_answer.ensures))

-- the sizes are right, and the rows are looked at
pub returns-in_err-rows_answer : goal.returns-in_err-rows_answer
unfolding clocked_run
returns-in_err-rows_answer c =
    let p = err_from_is_err_and c.from_residual-in_err-rows_answer.result c.from_residual-in_err-rows_answer.ensures.1 in
    rw (p.1, p.2) (clocked_refused (row_refusal _ _ _ (length (run_list _)) (ran_sized _ _ _ c.in_ok-run_answer.ensures) c.in_err-rows_answer.ensures))

-- the checks have passed
pub new-batch-requires : goal.new-batch-requires
new-batch-requires c = (looked_passed _ _ _ (ran_sized _ _ _ c.in_ok-run_answer.ensures) c.in_ok-rows_answer.ensures).ready

pub stepped-clocks-requires : goal.stepped-clocks-requires
stepped-clocks-requires c = rw c.new-batch.ensures (eqb-true _ _ (ran_sized _ _ _ c.in_ok-run_answer.ensures).list_fits_lem)

pub read_answers-requires : goal.read_answers-requires
read_answers-requires c =
    (ap length c.stepped-clocks.ensures.list ∙ list_length _, rw c.new-batch.ensures (ran_sized _ _ _ c.in_ok-run_answer.ensures).answers_fit)

pub returns : goal.returns
unfolding clocked_run
returns c =
    let g = batch c.args.terms c.args.rows c.args.a.now c.args.d.now c.args.b.now in
    let all = looked_passed g _ _ (ran_sized _ _ _ c.in_ok-run_answer.ensures) c.in_ok-rows_answer.ensures in
    let done = rw c.new-batch.ensures at c.stepped-clocks.ensures in
    let read = rw c.new-batch.ensures at c.read_answers.ensures in
    let e = all.ran (length (run_list g)) in
    let answers = rw done.list at read in
    record {
      run = ap Ok done.count ∙ sym e;
      list = rw e done.list;
      answers = rw e answers;
      exact = rw (e, ← exact_answers g done.bytes all.ready) answers;
    }
