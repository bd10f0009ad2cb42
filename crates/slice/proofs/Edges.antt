-- What every enable and no reset are, bit by bit. Assumes nothing.
use Rattle.std.proofs.Common.{◌≡◌, ℕ, ◌<◌, eqb, refl, eqb-true}
use Rattle.word.proofs.Every.{every_at}
use Rattle.unit.specs.Choice.{bit}

pub no_reset : (rst : ℕ) → rst < 10 → bit 0 rst ≡ 0
no_reset rst h = eqb-true (bit 0 rst) 0 (every_at 10 (λ k. eqb (bit 0 k) 0) refl rst h)

pub every_enable : (ce : ℕ) → ce < 13 → bit 8191 ce ≡ 1
every_enable ce h = eqb-true (bit 8191 ce) 1 (every_at 13 (λ k. eqb (bit 8191 k) 1) refl ce h)
