-- The number and the place of a packed run are small. Assumes nothing.
use Prim.Native.Nat.{ℕ, ◌<◌}
use mathlib.Core.Bool.{true}
use mathlib.Core.List.{List}
use lib.Dec.{eqb, lit<}
use lib.ListN.{length}
use lib.IntN.{ℤ}
use Rattle.std.specs.Prelude.{Ok, Err}
use Rattle.packed.specs.declared.Refusal.TheVariants.{BadTerms, BadRows, BadLength, Overfull}
use Rattle.packed.specs.Packed.{most_rows, Batch, run_clocks, run_list}
use Rattle.packed.specs.Calls.{Run, number_of, place_of, clocked_run, plain_run}
use Rattle.packed.proofs.Passing.{checked_place}

pub run_number_small : (run : Run) → number_of run < 256
run_number_small (Ok clocks) = lit< tt
run_number_small (Err BadTerms) = lit< tt
run_number_small (Err BadRows) = lit< tt
run_number_small (Err BadLength) = lit< tt
run_number_small (Err (Overfull row)) = lit< tt

pub clocked_place : (g : Batch) (os : List ℤ) (ws : List ℕ) → place_of (clocked_run g os ws) < most_rows
unfolding clocked_run
clocked_place g os ws = checked_place g (length os) (eqb (length ws) (run_clocks g.terms g.rows)) (length (run_list g))

pub plain_place : (g : Batch) (os : List ℤ) → place_of (plain_run g os) < most_rows
unfolding plain_run
plain_place g os = checked_place g (length os) true 0
