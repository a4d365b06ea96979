-- The number's highest bit tells how many digits it has: 0 is taken for 1, which has one too.
use Rattle.std.proofs.Common.{arith}
use Rattle.text.proofs.Laws.{bits_counted}
use Rattle.text.proofs.hexadecimal_digits.Goals as goal

pub returns : goal.returns
returns c =
    let bits = c.ilog2.ensures in bits_counted c.args.n _ c.ilog2.result bits.bound bits.power_le bits.next_power_gt (omega (arith, c.max.ensures))
