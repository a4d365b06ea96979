-- The C face of the step: answers as their two numbers, state and room as lent numbers. Document 01, "Forms for each place";
-- docs/MANUAL.md, "From C".
use Rattle.std.specs.Prelude.{ℕ, List}
use Rattle.answer.specs.declared.Answer.{Answer}
use Rattle.answer.specs.declared.Returned.{Returned}
use Rattle.answer.specs.Answer.{returned}
use Rattle.recorder.specs.Result.{Result, together}
use Rattle.operation.specs.Operation.{operation_of}
use Rattle.recorder.specs.Lent.{lent_step}

-- A result with its answer as two numbers.
abbrev pub as_numbers : Result Answer (List ℕ) → Result Returned (List ℕ)
as_numbers r = together (returned r.answer) r.state r.room

-- One step: the state's numbers, the operation's code, cycles and four numbers, and the room.
unfoldable pub step_result : List ℕ → ℕ → ℕ → ℕ → ℕ → ℕ → ℕ → List ℕ → Result Returned (List ℕ)
step_result words code cycles a b c d room = as_numbers (lent_step words (operation_of code a b c d) cycles room)
