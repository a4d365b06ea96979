-- The C face of recordings: bytes, numbers and places as they are lent and answered. Document 01, "Refusal numbers", the
-- paragraph under the table, and "Forms for each place"; document 02, "Two"; docs/MANUAL.md, "Recordings", "Batches" and
-- "From C".
use Rattle.std.specs.Prelude.{ℕ, cond, List, ltb, length}
use Rattle.answer.specs.declared.Answer.{Answer}
use Rattle.answer.specs.declared.Answer.TheVariants.{Value, Refused}
use Rattle.answer.specs.declared.Returned.{Returned}
use Rattle.answer.specs.Answer.{refusal_number, returned}
use Rattle.state.specs.Words.{stored, loaded, if_sound}
use Rattle.recorder.specs.Result.{Result, together}
use Rattle.recording.specs.Recording.{Reading}
use Rattle.recording.specs.Recording.{operation_at}
use Rattle.recording.specs.Operations.{stored_numbers}
use Rattle.recording.specs.RecordedStep.{Recorded, step_of_reading}
use Rattle.batch.specs.Batch.{Batch, batched, batch_of}
use Rattle.brb.specs.declared.BrbRecorded.{BrbRecorded}
use Rattle.std.specs.Prelude.{Ok, Err}

-- What reading an operation answers, and what it leaves in the lent numbers.
pub record ReadInto : Type 0 where
  pub answer : Returned
  pub lent : List ℕ

-- An answer and lent numbers, together.
abbrev pub read_into : Returned → List ℕ → ReadInto
read_into answer lent = record { answer = answer; lent = lent }

-- What was read, into lent numbers: the operation's six, and the place after it is answered; on a refusal they are as they
-- were.
abbrev pub of_reading : List ℕ → Reading → ReadInto
of_reading lent (Ok (x, next)) = read_into (returned (Value next)) (stored_numbers x lent)
of_reading lent (Err d) = read_into (returned (Refused (refusal_number d.refusal))) lent

-- Reading the operation at a place. Fewer than six lent numbers are 6, before anything is read (house).
unfoldable pub read_result : List ℕ → ℕ → List ℕ → ReadInto
read_result bytes at lent =
    cond (ltb (length lent) 6) (read_into (returned (Refused 6)) lent) (of_reading lent (operation_at bytes at))

-- An answer as its two numbers, and the place where reading goes on, or where the bad number starts.
abbrev pub returned_at : Answer → ℕ → BrbRecorded
returned_at a next = record { number = (returned a).number; value = (returned a).value; next = next }

-- A recorded step's result with its answer as numbers and its state stored in the lent ones.
abbrev pub of_recorded : List ℕ → Recorded → Result BrbRecorded (List ℕ)
of_recorded words r = together (returned_at r.result.answer r.next) (stored r.result.state words) r.result.room

-- The step of the operation at a place of a recording, on the sound state that lent numbers hold. Where they hold none, that
-- is the refusal, with nothing read and every number as it was. (It is the recorded step, but for a state that was judged when
-- it was loaded.)
unfoldable pub recorded_result : List ℕ → List ℕ → List ℕ → ℕ → Result BrbRecorded (List ℕ)
recorded_result words room bytes at =
    if_sound (loaded words) (λ s. of_recorded words (step_of_reading s room (operation_at bytes at)))
    (λ n. together (returned_at (Refused n) at) words room)

-- A batch with its answer as two numbers.
abbrev pub batch_in_numbers : Batch Answer → Batch Returned
batch_in_numbers b = batched (returned b.answer) b.state b.room b.answers

-- The batch of a run: the state's numbers, the room, the run's bytes, and the lent place for answers.
unfoldable pub batch_result : List ℕ → List ℕ → List ℕ → List ℕ → Batch Returned
batch_result words room bytes answers = batch_in_numbers (batch_of words room bytes answers)
