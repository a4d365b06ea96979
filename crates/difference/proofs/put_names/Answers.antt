-- The names that are left, behind those so far, are all names.
use Rattle.std.proofs.Common.{◌≡◌, arith}
use Rattle.buffer.proofs.Laws.{no_part}
use Rattle.difference.specs.Difference.{names}
use Rattle.difference.proofs.Laws.{next_field}
use Rattle.difference.proofs.put_names.Goals as goal

pub loop-weight-preserved : goal.loop-weight-preserved
loop-weight-preserved c =
    λ after rest. c.loop-weight.invariant after (next_field c.args.d _ c.loop-weight.weight-index _ c.loop-weight.begun (omega arith) c.put_piece.ensures rest)

pub returns : goal.returns
unfolding names
returns c =
    let all : c.loop-weight.weight-index ≡ 6 = omega arith in
    (rw all at c.loop-weight.invariant c.loop-weight.out) no_part
