-- What reading on from a place comes to is what reading on from the start does.
use Prim.Native.Nat.{◌-◌}
use mathlib.Core.Path.{◌≡◌}
use mathlib.Core.List.{[]}
use lib.ListN.{length, drop}
use Rattle.notation.specs.Reading.{read_from}
use Rattle.notation.proofs.read_on.Given as goal

abbrev pub invariant-loop-place : goal.invariant-loop-place
invariant-loop-place l =
    read_from l.fn.begun [] (drop l.at l.bytes) l.at ≡ read_from l.so_far [] (drop l.place l.bytes) l.place

abbrev pub decreases-loop-place : goal.decreases-loop-place
decreases-loop-place l =
    length l.bytes - l.place
