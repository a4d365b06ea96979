-- Cycles and fields, as defined: each number that was read stands in the array behind those before it, and a bad one ends them.
use Prim.Native.Nat.{◌≤◌}
use mathlib.Core.Path.{◌≡◌}
use lib.ListN.{length}
use Rattle.recording.proofs.SoFar.{Held}
use Rattle.recording.proofs.fields_at.Given as goal

abbrev pub invariant-loop-i : goal.invariant-loop-i
invariant-loop-i l =
    Held l.bytes l.at l.list l.next l.i × (length l.list ≡ 5) × (l.i ≤ l.count)
