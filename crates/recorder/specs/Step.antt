-- The step: every operation on every state has one answer, one next state and one next room. Document 01, whole;
-- docs/MANUAL.md, "Operations".
use Rattle.std.specs.Prelude.{ℕ, cond, List, eqb, length}
use Rattle.answer.specs.declared.Answer.{Answer}
use Rattle.answer.specs.declared.Answer.TheVariants.{Refused}
use Rattle.state.specs.declared.State.{State}
use Rattle.state.specs.Named.{with_start}
use Rattle.room.specs.Room.{room_after, start_after}
use Rattle.operation.specs.declared.Operation.{Operation}
use Rattle.operation.specs.Refusal.{refusal_of}
use Rattle.change.specs.Change.{decided}
use Rattle.recorder.specs.Result.{Result, together}

-- An accepted operation. Its answer, its effect and what is prohibited go by the state before it; then the room is written, and the
-- start is where the newest record is.
unfoldable pub accepted : State → Operation → ℕ → List ℕ → Result Answer State
accepted s o cycles room =
    let all = decided s o cycles room in
    together all.answer (with_start (start_after s.size s.start all.effect) all.state)
    (room_after s.size s.start all.effect room)

-- A refusal: state and room are as they were.
abbrev pub refused : ℕ → State → List ℕ → Result Answer State
refused n s room = together (Refused n) s room

-- The step: a refusal where the operation has one, else it is accepted.
unfoldable pub step_of : State → Operation → ℕ → List ℕ → Result Answer State
step_of s o cycles room =
    cond (eqb (refusal_of s o (length room)) 0) (accepted s o cycles room) (refused (refusal_of s o (length room)) s room)
