-- The step on a state that a host lends as numbers: docs/MANUAL.md, "State and room".
use Rattle.std.specs.Prelude.{ℕ, List}
use Rattle.answer.specs.declared.Answer.{Answer}
use Rattle.answer.specs.declared.Answer.TheVariants.{Refused}
use Rattle.state.specs.declared.State.{State}
use Rattle.state.specs.Words.{stored, loaded, if_sound}
use Rattle.operation.specs.declared.Operation.{Operation}
use Rattle.recorder.specs.Result.{Result, together}
use Rattle.recorder.specs.Step.{step_of}

-- A result with its state stored in the lent numbers.
abbrev pub in_words : {A : Type 0} → List ℕ → Result A State → Result A (List ℕ)
in_words words r = together r.answer (stored r.state words) r.room

-- The step of the sound state that lent numbers hold. Where they hold none, that is the refusal, before any other, and every
-- number is as it was.
unfoldable pub lent_step : List ℕ → Operation → ℕ → List ℕ → Result Answer (List ℕ)
lent_step words o cycles room =
    if_sound (loaded words) (λ s. in_words words (step_of s o cycles room)) (λ n. together (Refused n) words room)
