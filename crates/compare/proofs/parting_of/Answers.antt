-- Where two recordings part: what a turn keeps, and what the walk's end says.
use Rattle.std.proofs.Common.{◌∙◌, arith}
use Rattle.compare.proofs.Together.{begins, done}
use Rattle.compare.proofs.Turning.{keeps}
use Rattle.compare.proofs.parting_of.Goals as goal

pub loop-l-init : goal.loop-l-init
loop-l-init c = (rw c.start.ensures (begins c.args.a.now c.args.b.now), omega arith)

pub loop-l-smaller : goal.loop-l-smaller
loop-l-smaller c =
    let l = c.loop-l in
    (keeps c.args.a.now c.args.b.now c.type_inv.a (omega arith) l.l l.invariant.0 l.invariant.1 c.loop-l-test.true c.turn-l.result c.turn-l.ensures).nearer

pub loop-l-preserved : goal.loop-l-preserved
loop-l-preserved c =
    let l = c.loop-l in
    let k = keeps c.args.a.now c.args.b.now c.type_inv.a (omega arith) l.l l.invariant.0 l.invariant.1 c.loop-l-test.true c.turn-l.result c.turn-l.ensures in
    (k.together, k.at_most)

pub returns : goal.returns
returns c =
    let l = c.loop-l in
    c.parted_unless_bad.ensures
    ∙ done c.args.a.now c.args.b.now l.l.walk l.invariant.0 c.loop-l-test.false
