-- No number, and one more behind those so far.
use Rattle.buffer.proofs.Laws.{no_part, and_part}
use Rattle.notation.specs.Text.{spaced}
use Rattle.readable.proofs.Laws.{one_more}
use Rattle.readable.proofs.put_spaced.Goals as goal

pub loop-n-init : goal.loop-n-init
unfolding spaced
loop-n-init c =
    no_part

pub loop-n-preserved : goal.loop-n-preserved
loop-n-preserved c =
    rw (one_more c.args.list.now c.loop-n.n-index c.loop-n-test.true) (and_part c.loop-n.invariant c.decimal.ensures)
