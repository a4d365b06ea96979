-- Where so many numbers end. The loop's invariant: where those that are left end is where all do.
use Prim.Native.Nat.{◌+◌, ◌*◌, ◌-◌, ◌≤◌}
use mathlib.Core.Path.{◌≡◌}
use lib.ListN.{length}
use Rattle.recording.specs.Recording.{numbers_at}
use Rattle.recording.specs.Run.{end_of_several}
use Rattle.recording.proofs.numbers_end.Given as goal

abbrev pub invariant-loop : goal.invariant-loop
invariant-loop l =
    (end_of_several (numbers_at (l.count - l.counter) l.bytes l.next) ≡ end_of_several (numbers_at l.count l.bytes l.at)) × (l.next + 10 * (l.count - l.counter) ≤ length l.bytes)
