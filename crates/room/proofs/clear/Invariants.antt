-- `room::clear` meets its contract. The invariant of its loop: the first of the needed numbers are 0 and the others as they were.
use mathlib.Core.Path.{◌≡◌}
use mathlib.Core.List.{◌++◌}
use lib.ListN.{drop, replicate}
use Rattle.room.proofs.clear.Given as goal

abbrev pub invariant-loop-number : goal.invariant-loop-number
invariant-loop-number l =
    l.number-items ≡ replicate l.number-index 0 ++ drop l.number-index l.initial.number-items
