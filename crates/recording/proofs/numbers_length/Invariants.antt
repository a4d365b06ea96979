-- The length of numbers. The loop's invariant: what is counted, and the bytes of the numbers from here on, make the whole.
use Prim.Native.Nat.{◌+◌, ◌*◌, ◌≤◌}
use mathlib.Core.Path.{◌≡◌}
use lib.ListN.{length, drop}
use Rattle.recording.specs.Recording.{bytes_of_all}
use Rattle.recording.proofs.numbers_length.Given as goal

abbrev pub invariant-loop-n : goal.invariant-loop-n
invariant-loop-n l =
    (l.size ≤ 10 * l.n-index) × (l.size + length (bytes_of_all (drop l.n-index l.list)) ≡ length (bytes_of_all l.list))
