-- Any two permitted outcomes of one input coincide. A promise is an equation `outcome ≡ definition`, so two outcomes are equal
-- where the outcome itself is; where a promise joins an answer with what is left in lent memory, each part is equal.
use Prim.Native.Nat.{ℕ}
use mathlib.Core.Path.{◌≡◌, refl, sym, ap, ◌∙◌}
use mathlib.Core.List.{List}
use Rattle.answer.specs.declared.Returned.{Returned}
use Rattle.answer.specs.declared.Answer.{Answer}
use Rattle.state.specs.declared.State.{State}
use Rattle.recorder.specs.declared.Stepped.{Stepped}
use Rattle.recorder.specs.Result.{Result, together}
use Rattle.recording.specs.declared.Replayed.{Replayed}
use Rattle.recording.specs.RecordedStep.{Recorded}
use Rattle.brb.specs.Recordings.{ReadInto, read_into}

-- Two outcomes that equal one definition are equal.
pub one_outcome : {A : Type 0} {x y z : A} → x ≡ z → y ≡ z → x ≡ y
one_outcome p q = p ∙ sym q

-- ... and so are the parts from which an outcome is joined, where it can be taken apart again.
pub one_outcome_of : {A B : Type 0} (join : A → B) (apart : B → A) → ((a : A) → apart (join a) ≡ a) → {a b : A} {z : B} → join a ≡ z
    → join b ≡ z
    → a ≡ b
one_outcome_of join apart back {a} {b} p q = sym (back a) ∙ ap apart (one_outcome p q) ∙ back b

-- The joined promises of our functions: of `recorder::lent_step`, `brb_step`, `brb_read` and `brb_step_recorded`, ...
pub left-outcome : {A S : Type 0} {a b : A × S × List ℕ} {z : Result A S} → together a.0 a.1 a.2 ≡ z → together b.0 b.1 b.2 ≡ z
    → a ≡ b
left-outcome {A} {S} p q =
    one_outcome_of (λ (x : A × S × List ℕ). together x.0 x.1 x.2) (λ r. (r.answer, r.state, r.room)) (λ x. refl) p q

-- ... of `recorder::step`, ...
abbrev step_left : Stepped × List ℕ → Result Answer State
step_left x = together x.0.answer x.0.state x.1

pub step_outcome : {a b : Stepped × List ℕ} {z : Result Answer State} → step_left a ≡ z → step_left b ≡ z → a ≡ b
step_outcome p q = one_outcome_of step_left (λ r. (record { answer = r.answer; state = r.state }, r.room)) (λ x. refl) p q

-- ... of `recording::recorded_step`, ...
abbrev recorded_left : Replayed × List ℕ → Recorded
recorded_left x = record { result = together x.0.answer x.0.state x.1; next = x.0.next }

pub recorded_outcome : {a b : Replayed × List ℕ} {z : Recorded} → recorded_left a ≡ z → recorded_left b ≡ z → a ≡ b
recorded_outcome p q =
    one_outcome_of recorded_left (λ r. (record { answer = r.result.answer; state = r.result.state; next = r.next }, r.result.room)) (λ x. refl) p q

-- ... and of `brb_recording_read`.
pub read_outcome_lem : {a b : Returned × List ℕ} {z : ReadInto} → read_into a.0 a.1 ≡ z → read_into b.0 b.1 ≡ z → a ≡ b
read_outcome_lem p q =
    one_outcome_of (λ (x : Returned × List ℕ). read_into x.0 x.1) (λ r. (r.answer, r.lent)) (λ x. refl) p q
