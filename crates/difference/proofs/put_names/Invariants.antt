-- The names that are left, behind those so far, are all names.
use Rattle.std.proofs.Common.{List, ℕ, false, drop}
use Rattle.buffer.specs.Buffer.{Put}
use Rattle.difference.specs.Difference.{joined}
use Rattle.difference.proofs.Laws.{told_of}
use Rattle.difference.proofs.put_names.Given as goal

abbrev pub invariant-loop-weight : goal.invariant-loop-weight
invariant-loop-weight l =
    (after : List ℕ) → Put l.out (joined l.begun (told_of l.d (drop l.weight-index l.weight-items))) after
    → Put l.initial.out (joined false (told_of l.d l.weight-items)) after
