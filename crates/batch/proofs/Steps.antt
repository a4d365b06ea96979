-- The steps of a run, one in front of the others: how many answers they have, and how these are written one behind another.
use Prim.Native.Nat.{ℕ, ◌+◌, ◌*◌, ◌≤◌, ◌<◌}
use native.Mathlib.Omega.{arith}
use mathlib.Core.Path.{◌≡◌, refl, sym, ap, ◌∙◌}
use mathlib.Core.List.{List, [], ◌∷◌}
use lib.ListN.{length}
use Rattle.answer.specs.declared.Answer.{Answer}
use Rattle.number.specs.Number.{written}
use Rattle.number.proofs.Laws.{written_more}
use Rattle.recorder.specs.Result.{Result}
use Rattle.recording.specs.Recording.{Reading}
use Rattle.recording.specs.Recording.{operation_at}
use Rattle.recording.specs.Run.{place_after}
use Rattle.batch.specs.Batch.{step_of_read, in_front, steps, in_numbers}
use Rattle.recording.proofs.Run.{left, one_left}

-- Each reading has an answer, and each answer two numbers.
pub answered : (list : List Reading) (words room : List ℕ) → length (steps list words room).answer ≡ length list
unfolding steps
answered [] words room = refl
answered (x ∷ list) words room =
    let one = step_of_read x words room in
    let rest = answered list one.state one.room in omega arith

pub two_each : (list : List Answer) → length (in_numbers list) ≡ 2 * length list
unfolding in_numbers
two_each [] = refl
two_each (a ∷ list) = let rest = two_each list in omega arith

-- The operation at a place of a run, in front of what is left behind it.
module _ (bytes words room answers : List ℕ) (at place : ℕ) (there : at < length bytes) where
  abbrev one : Result Answer (List ℕ)
  one = step_of_read (operation_at bytes at) words room

  abbrev rest : Result (List Answer) (List ℕ)
  rest = steps (left bytes (place_after bytes (operation_at bytes at))) one.state one.room

  pub front : steps (left bytes at) words room ≡ in_front one.answer rest
  unfolding steps
  front = rw (one_left bytes at there)

  -- Its answer is written, and then theirs: all of them are.
  pub then_theirs : place + 2 * length (left bytes at) ≤ length answers
      → written (written answers place (in_numbers (one.answer ∷ []))) (place + 2) (in_numbers rest.answer)
      ≡ written answers place (in_numbers (steps (left bytes at) words room).answer)
  unfolding in_numbers
  then_theirs fits =
      let more = in_numbers rest.answer in
      let size = two_each rest.answer in
      let count = ap (λ (r : Result (List Answer) (List ℕ)). length r.answer) (sym front) ∙ answered (left bytes at) words room in
      rw front (written_more answers place (in_numbers (one.answer ∷ [])) more (omega arith))
