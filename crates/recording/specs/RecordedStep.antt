-- One step of a recording: the state is judged, then the operation is read, and then it is stepped. Document 01, "Refusal
-- numbers", the paragraph under the table; docs/MANUAL.md, "Recordings".
use Rattle.std.specs.Prelude.{ℕ, Bool, List, [], ◌∷◌, Ok, Err}
use Rattle.answer.specs.declared.Answer.{Answer}
use Rattle.answer.specs.Answer.{refusal_number, returned}
use Rattle.bits.specs.Bits.{one_of}
use Rattle.state.specs.declared.State.{State}
use Rattle.state.specs.Words.{judged, if_sound}
use Rattle.operation.specs.Operation.{operation_of}
use Rattle.recorder.specs.Result.{Result}
use Rattle.recorder.specs.Step.{refused, step_of}
use Rattle.recording.specs.Recording.{Reading, operation_at}

-- A step's result, and the place where reading goes on: behind the operation; where the bad number starts, after 1 or 2; and
-- the place handed in, after 7.
pub record Recorded : Type 0 where
  pub result : Result Answer State
  pub next : ℕ

-- The step of what was read: of the operation, or the refusal that reading came to.
abbrev pub step_of_reading : State → List ℕ → Reading → Recorded
step_of_reading s room (Ok (x, next)) =
    record { result = step_of s (operation_of x.code x.a x.b x.c x.d) x.cycles room; next = next }
step_of_reading s room (Err d) = record { result = refused (refusal_number d.refusal) s room; next = d.at }

-- The step of the operation at a place. A state that is not sound is refused first, with nothing read.
unfoldable pub recorded_step : State → List ℕ → List ℕ → ℕ → Recorded
recorded_step s room bytes at =
    if_sound (judged s) (λ judgedSound. step_of_reading judgedSound room (operation_at bytes at)) (λ n. record { result = refused n s room; next = at })

-- Reading stops after refusals 7, 1 and 2, since the state or the place of the next operation is not known; after every other
-- answer it goes on.
abbrev pub stops_reading : Answer → Bool
stops_reading a = one_of (7 ∷ 1 ∷ 2 ∷ []) (returned a).number
