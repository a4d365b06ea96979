-- What is left where nothing was changed.
use Rattle.std.specs.Prelude.{ℕ, List}
use Rattle.answer.specs.declared.Returned.{Returned}
use Rattle.recorder.specs.Result.{Result, together}
use Rattle.brb.specs.declared.BrbRecorded.{BrbRecorded}

-- The number that was answered, the value 0, and every lent number as it was.
abbrev pub unchanged : List ℕ → List ℕ → Result Returned (List ℕ) → Result Returned (List ℕ)
unchanged words room r = together (record { number = r.answer.number; value = 0 }) words room

-- The same of a recorded step, which also says where reading goes on.
abbrev pub unchanged_recorded : List ℕ → List ℕ → Result BrbRecorded (List ℕ) → Result BrbRecorded (List ℕ)
unchanged_recorded words room r = together (record { number = r.answer.number; value = 0; next = r.answer.next }) words room
