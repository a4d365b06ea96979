-- Where a number ends. The loop's invariant is `Reached`.
use Prim.Native.Nat.{◌+◌}
use Rattle.number.specs.Number.{number_at}
use Rattle.number.proofs.Ends.{Reached}
use Rattle.recording.proofs.number_end.Given as goal

abbrev pub invariant-loop-k : goal.invariant-loop-k
invariant-loop-k l =
    Reached (number_at l.bytes l.at) l.bytes (l.at + 9) (l.at + l.k)
