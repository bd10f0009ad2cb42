-- What the parts of the code promise one another; no caller needs it. Assumes nothing.
use Rattle.std.specs.Prelude.{ℕ, suc, ◌+◌, ◌*◌, ◌≤◌, ◌<◌, ◌≡◌, Bool, true, false, List, eqb, length, set, ℤ, Option, Some, None, Result, Ok}
use Rattle.records.specs.Records.{output_words}
use Rattle.records.specs.declared.Ports.{Ports}
use Rattle.column.specs.Refusals.{lowest}
use Rattle.packed.specs.declared.Refusal.{Refusal}
use Rattle.packed.specs.Packed.{most_terms, most_rows, Batch, Byte, fed, slice_ports, run_attributes, run_ports, run_registers, top, run_clocks, run_list}
use Rattle.packed.specs.Calls.{overfull, refuse_row}

-- the checks have passed: as many terms and rows as are taken, arrays of their length, and no overfull row
pub record Ready (g : Batch) : Type 0 where
  pub some : 1 ≤ g.terms
  pub most : g.terms ≤ most_terms
  pub few : g.rows ≤ most_rows
  pub highs : length g.a ≡ g.rows * g.terms
  pub lows : length g.d ≡ g.rows * g.terms
  pub rights : length g.b ≡ g.rows * g.terms
  pub fit : (j : ℕ) → j < g.rows → overfull g j ≡ false

-- what a look at the rows has found, where it had all of them to go by
abbrev pub Looked : Batch → Result Unit Refusal → Type 0
Looked g r =
    g.terms ≤ most_terms → g.rows ≤ most_rows → length g.d ≡ g.rows * g.terms → length g.b ≡ g.rows * g.terms
    → r ≡ refuse_row (lowest (overfull g) g.rows) (Ok tt)

-- the list has its length, where the run is lent one
abbrev pub list_fits : (terms rows : ℕ) → Option ℕ → Bool
list_fits terms rows None = true
list_fits terms rows (Some n) = eqb n (run_clocks terms rows)

-- row j's two answers written over os
abbrev pub with_row : (os : List ℤ) → (j : ℕ) → (high low : ℤ) → List ℤ
with_row os j high low = set (set os (2 * j) high) (2 * j + 1) low

-- what slice k is fed in clock t is bytes
abbrev pub FedBytes : Batch → (t k : ℕ) → Type 0
FedBytes g t k = Byte (fed g g.a t k) × Byte (fed g g.d t k) × Byte (fed g g.b t k)

-- slice k's ports in clock t
pub record SliceFed (g : Batch) (t k : ℕ) (r : Ports) : Type 0 where
  pub ports : r ≡ slice_ports g t k
  pub bytes : FedBytes g t k

-- every slice's
pub record ColumnFed (g : Batch) (t : ℕ) (ps : List ℕ) : Type 0 where
  pub ports : ps ≡ run_ports g t
  pub bytes : (k : ℕ) → k < g.terms → FedBytes g t k

-- the column after t clocks: its attributes and registers, and room for its outputs
pub record Standing (g : Batch) (t : ℕ) (at rs os : List ℕ) : Type 0 where
  pub attributes : at ≡ run_attributes g.terms
  pub registers : rs ≡ run_registers g t
  pub outputs : length os ≡ output_words * g.terms

-- clock t is stepped, and p is the top P that it shows
pub record OneStep (g : Batch) (t : ℕ) (at rs os : List ℕ) (p : ℕ) : Type 0 where
  pub shown : p ≡ top g t
  pub next : Standing g (suc t) at rs os
  pub bytes : (k : ℕ) → k < g.terms → FedBytes g t k

-- so many clocks are stepped, and the list holds the top P of each
pub record Stepped (g : Batch) (clocks : ℕ) (ws : List ℕ) : Type 0 where
  pub count : clocks ≡ length (run_list g)
  pub list : ws ≡ run_list g
  pub bytes : (t : ℕ) → t < run_clocks g.terms g.rows → (k : ℕ) → k < g.terms → FedBytes g t k
