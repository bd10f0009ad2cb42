-- An exclusive or, and an or, of two words of 48 bits is one of 48 bits, so its complement doesn't go below 0. Assumes nothing.
use Rattle.std.proofs.Common.{◌%◌, ◌^◌, mod-lt, arith, pow_pos}
use lib.Bits.{or_lt, xor_lt}
use Rattle.reason.proofs.rules.made_by.Goals as goal

pub overflow_sub-result : goal.overflow_sub-result
overflow_sub-result c =
    let o = c.args.o in
    omega (arith, xor_lt 48 (o.x % 2 ^ 48) (o.z % 2 ^ 48) (mod-lt o.x (pow_pos 48)) (mod-lt o.z (pow_pos 48)))

pub overflow_sub-result-in-Nor : goal.overflow_sub-result-in-Nor
overflow_sub-result-in-Nor c =
    let o = c.args.o in
    omega (arith, or_lt 48 (o.x % 2 ^ 48) (o.z % 2 ^ 48) (mod-lt o.x (pow_pos 48)) (mod-lt o.z (pow_pos 48)))
