-- `number::more_at` meets its contract. The loop's invariant is `Passed`: what the groups passed make of what the rest reads
-- as is the whole. The measure is how far the place is from the loop's end. Assumes nothing.
use Prim.Native.Nat.{◌+◌, ◌-◌, ◌≤◌}
use lib.ListN.{drop}
use Rattle.number.specs.Number.{continued, number_in}
use Rattle.number.proofs.Groups.{Passed}
use Rattle.number.proofs.more_at.Given as goal

abbrev pub invariant-loop-i : goal.invariant-loop-i
invariant-loop-i l =
    Passed (continued l.first (number_in 9 (drop l.at l.bytes) l.at)) l.bytes (l.at + 8) l.value l.place l.i × (l.i ≤ l.tenth)

abbrev pub decreases-loop-i : goal.decreases-loop-i
decreases-loop-i l =
    l.tenth - l.i
