-- One recorded step on lent numbers, as defined: a state that is not sound is refused with nothing read; a sound one is judged
-- again where the operation that was read is stepped, and found to be the same.
use Prim.Native.Nat.{ℕ}
use mathlib.Core.Path.{◌≡◌, sym, ap, ◌∙◌}
use mathlib.Core.List.{List}
use Rattle.answer.specs.declared.Answer.{Answer}
use Rattle.state.specs.declared.State.{State}
use Rattle.state.specs.Words.{loaded}
use Rattle.state.proofs.Laws.{kept}
use Rattle.operation.specs.declared.Operation.{Operation}
use Rattle.recorder.specs.Result.{Result, together}
use Rattle.recorder.specs.Step.{step_of}
use Rattle.recorder.specs.Lent.{in_words, lent_step}
use Rattle.recording.specs.Recording.{operation_at}
use Rattle.recording.specs.RecordedStep.{step_of_reading}
use Rattle.brb.specs.declared.BrbRecorded.{BrbRecorded}
use Rattle.brb.specs.Recordings.{returned_at, of_recorded, recorded_result}
use Rattle.brb.proofs.brb_step_recorded.Goals as goal
use Rattle.std.proofs.Common.{Some}

abbrev as_recorded : ℕ → Result Answer (List ℕ) → Result BrbRecorded (List ℕ)
as_recorded next r = together (returned_at r.answer next) r.state r.room

-- Of a state that was loaded, the step is that of the state, and the recorded step is that of what was read.
lent_held : (words room : List ℕ) (o : Operation) (cycles : ℕ) (s : State) → loaded words ≡ Some s
    → lent_step words o cycles room ≡ in_words words (step_of s o cycles room)
unfolding lent_step
lent_held words room o cycles s e = rw e

of_held : (words room bytes : List ℕ) (at : ℕ) (s : State) → loaded words ≡ Some s
    → recorded_result words room bytes at ≡ of_recorded words (step_of_reading s room (operation_at bytes at))
unfolding recorded_result
of_held words room bytes at s e = rw e

pub returns-in_default : goal.returns-in_default
unfolding recorded_result
returns-in_default c =
    rw (c.returned_at.ensures, ← c.load.ensures, c.in_default.is, c.into.ensures)

pub returns-in-Ok : goal.returns-in-Ok
returns-in-Ok c =
    let loads : loaded c.args.state.now ≡ Some (c.in-Some.field-0) = sym c.load.ensures ∙ c.in-Some.is in
    let goes_on : (let a = c.args in recorded_result a.state.now a.room.now a.bytes.now a.at ≡ of_recorded a.state.now (step_of_reading (c.in-Some.field-0) a.room.now (operation_at a.bytes.now a.at))) = let a = c.args in of_held a.state.now a.room.now a.bytes.now a.at (c.in-Some.field-0) loads in
    rw (c.returned_at-in-Ok.ensures, goes_on, ← c.operation_at.ensures, c.in-Ok.is)
    (ap (as_recorded _) (c.lent_step-answer.ensures ∙ lent_held _ _ _ _ _ loads))

pub returns-in-Err : goal.returns-in-Err
returns-in-Err c =
    let loads : loaded c.args.state.now ≡ Some (c.in-Some.field-0) = sym c.load.ensures ∙ c.in-Some.is in
    let goes_on : (let a = c.args in recorded_result a.state.now a.room.now a.bytes.now a.at ≡ of_recorded a.state.now (step_of_reading (c.in-Some.field-0) a.room.now (operation_at a.bytes.now a.at))) = let a = c.args in of_held a.state.now a.room.now a.bytes.now a.at (c.in-Some.field-0) loads in
    rw (c.returned_at-in-Err.ensures, c.into-in-Err.ensures, goes_on, ← c.operation_at.ensures, c.in-Err.is, kept _ _ loads)
