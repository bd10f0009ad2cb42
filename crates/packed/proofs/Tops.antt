-- The run's list: the top P of each clock, clock 0 first. Assumes nothing.
use Prim.Native.Nat.{ℕ, ◌+◌, ◌*◌, ◌<◌}
use mathlib.Core.Path.{◌≡◌, refl, ap, ◌∙◌}
use mathlib.Core.List.{List, [], ◌∷◌}
use native.Mathlib.Nat.{one-mul}
use native.Mathlib.Omega.{arith}
use lib.Dec.{lit<}
use lib.ListN.{length, get_or}
use Rattle.column.specs.Column.{stacked}
use Rattle.column.proofs.Stacks.{stacked_length, stacked_word}
use Rattle.packed.specs.Packed.{Batch, top, run_clocks, run_list}

module _ (g : Batch) where
  -- the top P of each of the first n clocks
  abbrev pub tops : (n : ℕ) → List ℕ
  tops n = stacked (λ t. top g t ∷ []) n

  pub tops_length : (n : ℕ) → length (tops n) ≡ n
  tops_length n = stacked_length (λ t. top g t ∷ []) 1 (λ t. refl) n ∙ one-mul n

  pub list_length : length (run_list g) ≡ run_clocks g.terms g.rows
  unfolding run_list
  list_length = tops_length (run_clocks g.terms g.rows)

  pub list_word : (t : ℕ) → t < run_clocks g.terms g.rows → get_or (run_list g) t 0 ≡ top g t
  unfolding run_list
  list_word t h =
      let e : t ≡ 1 * t + 0 = omega arith in
      ap (λ (i : ℕ). get_or (run_list g) i 0) e ∙ stacked_word (λ t. top g t ∷ []) 1 (λ t. refl) t (run_clocks g.terms g.rows) 0 h (lit< tt)
