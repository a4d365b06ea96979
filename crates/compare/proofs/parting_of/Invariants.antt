-- Where two recordings part. The loop's invariant is `Together` of the walk; the measure is how far it is from its end.
use Rattle.std.proofs.Common.{◌≡◌, ◌≤◌}
use Rattle.compare.specs.Walk.{at_once}
use Rattle.compare.proofs.Together.{Together}
use Rattle.compare.proofs.Turning.{distance}
use Rattle.compare.proofs.parting_of.Given as goal

abbrev pub invariant-loop-l : goal.invariant-loop-l
invariant-loop-l l =
    Together l.a l.b l.l.walk × (l.l.most ≤ at_once)

abbrev pub decreases-loop-l : goal.decreases-loop-l
decreases-loop-l l =
    distance l.a l.l
