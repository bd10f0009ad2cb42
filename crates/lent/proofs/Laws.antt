-- What is stored, and what a refusal leaves. Assumes nothing.
use Prim.Native.Nat.{ℕ, zero, suc, ◌≤◌, ◌<◌}
use mathlib.Core.Path.{◌≡◌, refl}
use mathlib.Core.List.{List, []}
use native.Mathlib.Omega.{arith}
use borrow.Author.Tests.{eq-eqb, le-leb, lt-leb}
use lib.ListN.{length}
use Rattle.lent.specs.Words.{stored, enough}
use Rattle.lent.specs.Refusing.{leaves}

-- words that are as many are stored
pub stored_all : (to from : List ℕ) → length to ≡ length from → stored to from ≡ from
stored_all to from e = rw (eq-eqb (length to) (length from) e)

-- words that are enough are read
pub enough_all : (n : ℕ) (ws : List ℕ) → n ≤ length ws → enough n ws ≡ ws
enough_all n ws h = rw (le-leb n (length ws) h)

-- and of too few none is
pub enough_none : (n : ℕ) (ws : List ℕ) → length ws < n → enough n ws ≡ []
enough_none n ws h = rw (lt-leb n (length ws) h)

-- a number above 0 leaves what was there
pub kept : {X : Type 0} (n : ℕ) → 0 < n → (new old : X) → old ≡ leaves n new old
kept zero h new old = absurd (omega arith)
kept (suc n) h new old = refl
