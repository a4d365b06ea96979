-- All operations of a run. The loop's invariant: the steps of what is left, from the state and the room that stand now, leave what
-- the steps of all leave; and their answers, written from here on, make the whole. The measure is how many bytes are left.
use Prim.Native.Nat.{◌+◌, ◌*◌, ◌-◌, ◌≤◌}
use mathlib.Core.Path.{◌≡◌}
use lib.ListN.{length}
use Rattle.number.specs.Number.{written}
use Rattle.recording.specs.Run.{readings}
use Rattle.batch.specs.Batch.{steps, in_numbers}
use Rattle.recording.proofs.Run.{left}
use Rattle.batch.proofs.step_all.Given as goal

abbrev pub invariant-loop-at : goal.invariant-loop-at
invariant-loop-at l =
    let all = steps (readings l.bytes) l.initial.words l.initial.room in
    let rest = steps (left l.bytes l.at) l.words l.room in
    (length l.words ≡ length l.initial.words) × (length l.room ≡ length l.initial.room) × (length l.answers ≡ length l.initial.answers)
    × (l.at ≤ length l.bytes) × (l.place + 2 * length (left l.bytes l.at) ≡ 2 * length (readings l.bytes))
    × (rest.state ≡ all.state) × (rest.room ≡ all.room)
    × (written l.answers l.place (in_numbers rest.answer) ≡ written l.initial.answers 0 (in_numbers all.answer))

abbrev pub decreases-loop-at : goal.decreases-loop-at
decreases-loop-at l =
    length l.bytes - l.at
