-- The pattern detector (01, "One clock": "Detector on the unit's result"). Assumes nothing.
use Rattle.std.specs.Prelude.{ℕ, zero, suc, ◌/◌, ◌%◌, Bool, true, cond, not, ◌&&◌, ◌||◌, ◌==◌}
use Rattle.unit.specs.declared.Detected.{Detected}

-- of the k low bits, each whose mask bit is 0 passes the test f of p's bit and the pattern's
unfoldable pub unmasked : (f : ℕ → ℕ → Bool) → (k p pattern mask : ℕ) → Bool
unmasked f zero p t m = true
unmasked f (suc k) p t m = (m % 2 == 1 || f (p % 2) (t % 2)) && unmasked f k (p / 2) (t / 2) (m / 2)

abbrev pub equal : ℕ → ℕ → Bool
equal a b = a == b

abbrev pub differs : ℕ → ℕ → Bool
differs a b = not (a == b)

-- PD is 1 when each bit whose MASK bit is 0 equals PATTERN; PBD when each such bit differs from it
unfoldable pub detected : (p pattern mask : ℕ) → Detected
detected p t m = record { pd = cond (unmasked equal 48 p t m) 1 0; pbd = cond (unmasked differs 48 p t m) 1 0 }
