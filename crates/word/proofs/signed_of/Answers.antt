-- Half of 2^w added, and taken off again, leaves the reading of w bits, which fits an i64. Assumes nothing.
use Rattle.std.proofs.Common.{◌≡◌, ℕ, ◌+◌, ◌*◌, ◌/◌, ◌%◌, ◌^◌, ◌≤◌, pos, ◌-ℤ◌, mod-lt, arith, pow_pos, pow_mono, to_z-of_z, w64, SFits, to_z}
use mir.Facts.{to_z_pos}
use Rattle.word.specs.Word.{signed}
use Rattle.word.proofs.Laws.{signed_fits}
use Rattle.word.proofs.Steps.{shl_one, low_bits, signed_offset}
use Rattle.word.proofs.signed_of.Goals as goal

pub returns : goal.returns
returns c = rw (power, read) (to_z-of_z fits)
  where
    w : ℕ
    w = c.args.w % 64

    n : ℕ
    n = c.args.n

    sum : ℕ
    sum = (n + 2 ^ w / 2) % 2 ^ 64

    power : 1 * 2 ^ w % 2 ^ 64 ≡ 2 ^ w
    power = shl_one 64 w (omega arith)

    room : 2 ^ w ≤ 2 ^ 63
    room = pow_mono {j = 63} (omega arith)

    cut : SFits w64 (pos (sum % 2 ^ w))
    cut = record { sfits = omega (arith, mod-lt sum (pow_pos w), room) }

    half : SFits w64 (pos (2 ^ w / 2))
    half = record { sfits = omega (arith, room) }

    summed : sum % 2 ^ w ≡ (n + 2 ^ w / 2) % 2 ^ w
    summed = low_bits 64 w (n + 2 ^ w / 2) (omega arith)

    read : to_z w64 (sum % 2 ^ w) -ℤ to_z w64 (2 ^ w / 2) ≡ signed w n
    read = rw (to_z_pos w64 cut.sfits, to_z_pos w64 half.sfits, summed) (signed_offset w n)

    fits : SFits w64 (signed w n)
    fits = signed_fits w n (omega arith)
