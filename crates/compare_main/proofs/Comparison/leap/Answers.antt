-- Operations whose bytes stand in both, or the pair that stands next.
use Rattle.compare_main.specs.Pair.{leapt}
use Rattle.compare_main.proofs.Comparison.leap.Goals as goal

pub returns-then-same_to : goal.returns-then-same_to
returns-then-same_to c =
    leapt c.requires c.passage-q.result c.passage-q.ensures (c.same_to.ensures c.if-same_to.true) c.moved.ensures
