-- Numbers written. The loop's invariant: the numbers from here on, written from here on, make the whole.
use Prim.Native.Nat.{◌+◌, ◌≤◌}
use mathlib.Core.Path.{◌≡◌}
use lib.ListN.{length, drop}
use Rattle.number.specs.Number.{written}
use Rattle.recording.specs.Recording.{bytes_of_all}
use Rattle.recording.proofs.write_numbers.Given as goal

abbrev pub invariant-loop-n : goal.invariant-loop-n
invariant-loop-n l =
    (l.place + length (bytes_of_all (drop l.n-index l.list)) ≤ length l.out) × (length l.out ≡ length l.initial.out)
    × (written l.out l.place (bytes_of_all (drop l.n-index l.list)) ≡ written l.initial.out l.at (bytes_of_all l.list))
