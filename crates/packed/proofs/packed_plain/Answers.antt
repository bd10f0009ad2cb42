-- `packed::packed_plain`: a refusal leaves the answers, and else both sums of each row are there. Assumes nothing.
use Rattle.std.proofs.Common.{sym}
use Rattle.std.proofs.lemmas.Result.{err_from_is_err_and}
use Rattle.packed.specs.Calls.{plain_run}
use Rattle.packed.proofs.Passing.{ran_sized, few_passed, looked_passed, size_refusal, row_refusal, plain_refused}
use Rattle.packed.proofs.packed_plain.Goals as goal

pub returns-in_err-run_answer : goal.returns-in_err-run_answer
unfolding plain_run
returns-in_err-run_answer c =
    let p = err_from_is_err_and c.from_residual.result c.from_residual.ensures.1 in
    rw (p.1, p.2) (plain_refused (size_refusal _ _ _ 0 c.in_err-run_answer.ensures))

-- fewer than eight terms
pub new-requires : goal.new-requires
new-requires c = (few_passed _ _ _ (ran_sized _ _ _ c.in_ok-run_answer.ensures) c.if-terms-lt-MOST_TERMS.true).ready

pub sums-requires : goal.sums-requires
sums-requires c = rw c.new.ensures (ran_sized _ _ _ c.in_ok-run_answer.ensures).answers_fit

pub returns-then-terms-lt-MOST_TERMS : goal.returns-then-terms-lt-MOST_TERMS
unfolding plain_run
returns-then-terms-lt-MOST_TERMS c =
    let e = (few_passed _ _ _ (ran_sized _ _ _ c.in_ok-run_answer.ensures) c.if-terms-lt-MOST_TERMS.true).ran 0 in
    record { run = sym e; answers = rw e (rw c.new.ensures at c.sums.ensures) }

-- eight, which are looked at
pub returns-in_err-rows_answer : goal.returns-in_err-rows_answer
unfolding plain_run
returns-in_err-rows_answer c =
    let p = err_from_is_err_and c.from_residual-in_err-rows_answer.result c.from_residual-in_err-rows_answer.ensures.1 in
    rw (p.1, p.2) (plain_refused (row_refusal _ _ _ 0 (ran_sized _ _ _ c.in_ok-run_answer.ensures) c.in_err-rows_answer.ensures))

pub new-requires-2 : goal.new-requires-2
new-requires-2 c = (looked_passed _ _ _ (ran_sized _ _ _ c.in_ok-run_answer.ensures) c.in_ok-rows_answer.ensures).ready

pub sums-requires-2 : goal.sums-requires-2
sums-requires-2 c = rw c.new-2.ensures (ran_sized _ _ _ c.in_ok-run_answer.ensures).answers_fit

pub returns : goal.returns
unfolding plain_run
returns c =
    let e = (looked_passed _ _ _ (ran_sized _ _ _ c.in_ok-run_answer.ensures) c.in_ok-rows_answer.ensures).ran 0 in
    record { run = sym e; answers = rw e (rw c.new-2.ensures at c.sums-2.ensures) }
