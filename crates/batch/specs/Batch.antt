-- A batch: the operations of a lent run in one call, each answered in a lent place of two numbers an operation. Document 02,
-- "Two"; docs/MANUAL.md, "Batches".
use Rattle.std.specs.Prelude.{ℕ, ◌*◌, cond, List, [], ◌∷◌, ltb, length}
use Rattle.answer.specs.declared.Answer.{Answer}
use Rattle.answer.specs.declared.Answer.TheVariants.{Value, Refused}
use Rattle.answer.specs.Answer.{refusal_number, returned}
use Rattle.number.specs.Number.{written}
use Rattle.state.specs.Words.{loaded, if_sound}
use Rattle.operation.specs.Operation.{operation_of}
use Rattle.recorder.specs.Result.{Result, together}
use Rattle.recorder.specs.Lent.{lent_step}
use Rattle.recording.specs.Recording.{Reading}
use Rattle.recording.specs.Run.{readings}
use Rattle.std.specs.Prelude.{Ok, Err}

-- The step of what was read, on a state that is lent as numbers: of the operation, or the refusal that reading came to, which
-- changes nothing.
abbrev pub step_of_read : Reading → List ℕ → List ℕ → Result Answer (List ℕ)
step_of_read (Ok (x, next)) words room = lent_step words (operation_of x.code x.a x.b x.c x.d) x.cycles room
step_of_read (Err d) words room = together (Refused (refusal_number d.refusal)) words room

-- An answer in front of those that come after it.
abbrev pub in_front : Answer → Result (List Answer) (List ℕ) → Result (List Answer) (List ℕ)
in_front a rest = together (a ∷ rest.answer) rest.state rest.room

-- The steps of all that was read, one after another, also behind one that is refused: each begins with the state and the room
-- that the one before it leaves.
unfoldable pub steps : List Reading → List ℕ → List ℕ → Result (List Answer) (List ℕ)
steps [] words room = together [] words room
steps (x ∷ list) words room =
    let one = step_of_read x words room in in_front one.answer (steps list one.state one.room)

-- Answers as numbers, two each: the number, then the value.
unfoldable pub in_numbers : List Answer → List ℕ
in_numbers [] = []
in_numbers (a ∷ list) = (returned a).number ∷ (returned a).value ∷ in_numbers list

-- What a batch answers, and what it leaves: the state's numbers, the room and the lent place for answers.
pub record Batch (A : Type 0) : Type 0 where
  pub answer : A
  pub state : List ℕ
  pub room : List ℕ
  pub answers : List ℕ

-- The four, together.
abbrev pub batched : {A : Type 0} → A → List ℕ → List ℕ → List ℕ → Batch A
batched answer state room answers = record { answer = answer; state = state; room = room; answers = answers }

-- A batch of these steps: how many they are; their answers stand at the front of the lent place, and what is past them is as
-- it was.
abbrev pub done_all : Result (List Answer) (List ℕ) → List ℕ → Batch Answer
done_all r answers = batched (Value (length r.answer)) r.state r.room (written answers 0 (in_numbers r.answer))

-- The batch of a run. 7 where the state is not sound, for all of it; then 6 where the place has fewer than two numbers for each
-- operation up to and including the one that ends the run. After either, everything lent is as it was.
unfoldable pub batch_of : List ℕ → List ℕ → List ℕ → List ℕ → Batch Answer
batch_of words room bytes answers =
    if_sound (loaded words)
    (λ s. cond (ltb (length answers) (2 * length (readings bytes))) (batched (Refused 6) words room answers) (done_all (steps (readings bytes) words room) answers))
    (λ n. batched (Refused n) words room answers)
