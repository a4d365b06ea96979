-- `number::number_length` meets its contract: the length by the place of the highest binary digit. Assumes nothing.
use Prim.Native.Nat.{◌/◌}
use native.Mathlib.Omega.{arith}
use Rattle.number.proofs.Laws.{last_of, length_of, length_by}
use Rattle.number.proofs.number_length.Goals as goal

pub returns-then-n-lt128 : goal.returns-then-n-lt128
returns-then-n-lt128 c =
    rw (last_of c.args.n (omega arith)) (omega arith)

pub returns : goal.returns
returns c =
    let e = c.ilog2.result in
    omega
    (arith, length_of c.args.n, length_by (e / 7) e c.args.n (omega arith) (omega arith) c.ilog2.ensures.power_le c.ilog2.ensures.next_power_gt (omega arith))
