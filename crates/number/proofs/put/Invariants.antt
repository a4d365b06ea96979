-- `number::put` meets its contract. The loop's invariant: what is left, stored from here on, is the whole of n stored
-- from its place on. Assumes nothing.
use Prim.Native.Nat.{◌+◌, ◌^◌, ◌<◌}
use mathlib.Core.Path.{◌≡◌}
use lib.ListN.{length}
use lib.Seq.{sets}
use Rattle.number.specs.Number.{bytes_of}
use Rattle.number.proofs.put.Given as goal

abbrev pub invariant-loop-i : goal.invariant-loop-i
invariant-loop-i l =
    (l.left < 2 ^ 64) × (l.i + length (bytes_of l.left) ≡ l.last + 1) × (length l.out ≡ length l.initial.out)
    × (sets l.out l.i (bytes_of l.left) ≡ sets l.initial.out l.at (bytes_of l.n))
