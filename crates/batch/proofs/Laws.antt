-- An accepted batch, and two of them one after the other: they are the batch of the two runs joined, where the first ends well.
use Prim.Native.Nat.{ℕ, ◌+◌, ◌*◌}
use native.Mathlib.Omega.{arith}
use mathlib.Core.Path.{◌≡◌, refl, sym, ap, ◌∙◌}
use mathlib.Core.Bool.{Bool, true, false, cond}
use mathlib.Core.List.{List, [], ◌∷◌, ◌++◌}
use lib.Dec.{ltb}
use lib.ListN.{length, take, drop, length-append}
use lib.Seq.{take_at}
use Rattle.bits.proofs.Cases.{never}
use Rattle.answer.specs.declared.Answer.{Answer}
use Rattle.answer.specs.declared.Answer.TheVariants.{Value, Refused}
use Rattle.answer.specs.Answer.{returned}
use Rattle.number.specs.Number.{written}
use Rattle.number.proofs.Laws.{Bytes}
use Rattle.state.specs.Words.{loaded, if_sound}
use Rattle.recorder.specs.Result.{Result, together}
use Rattle.recording.specs.declared.Numbers.{Numbers}
use Rattle.recording.specs.Operations.{Holds}
use Rattle.recording.specs.Run.{readings}
use Rattle.batch.specs.Batch.{steps, in_numbers, Batch, batched, done_all, batch_of}
use Rattle.batch.proofs.Steps.{two_each}
use Rattle.batch.proofs.Joined.{joined}
use Rattle.std.proofs.Common.{Some, None, Option}
use Rattle.state.specs.declared.State.{State}

-- A batch that was not refused is its steps.
pub all_done : (words room bytes answers : List ℕ) (n : ℕ) → (batch_of words room bytes answers).answer ≡ Value n
    → batch_of words room bytes answers ≡ done_all (steps (readings bytes) words room) answers
unfolding batch_of
all_done words room bytes answers n = go (loaded words) (ltb (length answers) (2 * length (readings bytes)))
  where
    of : Option State → Bool → Batch Answer
    of l t = if_sound l (λ s. cond t (batched (Refused 6) words room answers) (done_all (steps (readings bytes) words room) answers)) (λ k. batched (Refused k) words room answers)

    go : (l : Option State) (t : Bool) → (of l t).answer ≡ Value n → of l t ≡ done_all (steps (readings bytes) words room) answers
    go (Some s) true e = never (cc)
    go (Some s) false e = refl
    go None t e = never (cc)

-- Its answers stand at the front of the lent place.
front_of : (answers : List ℕ) (list : List Answer) → take (2 * length list) (written answers 0 (in_numbers list)) ≡ in_numbers list
front_of answers list = take_at (in_numbers list) (drop (0 + length (in_numbers list)) answers) (2 * length list) (two_each list)

numbers_of_both : (list more : List Answer) → in_numbers (list ++ more) ≡ in_numbers list ++ in_numbers more
unfolding in_numbers
numbers_of_both [] more = refl
numbers_of_both (a ∷ list) more = ap (λ (rest : List ℕ). (returned a).number ∷ (returned a).value ∷ rest) (numbers_of_both list more)

counted : (r : Result (List Answer) (List ℕ)) (answers : List ℕ) (b : Batch Answer) (n : ℕ) → b ≡ done_all r answers → b.answer ≡ Value n
    → n ≡ length r.answer
counted r answers b n e f = let value : Value n ≡ Value (length r.answer) = sym f ∙ ap (λ (x : Batch Answer). x.answer) e in cc

numbered : (r : Result (List Answer) (List ℕ)) (answers : List ℕ) (b : Batch Answer) (n : ℕ) → b ≡ done_all r answers → b.answer ≡ Value n
    → take (2 * n) b.answers ≡ in_numbers r.answer
numbered r answers b n e f = rw (counted r answers b n e f, e) (front_of answers r.answer)

-- Two batches, the second on the state and the room that the first left, and the batch of the joined run: as many answers, the same
-- ones in the same order, the same state and the same room. The three places for answers are of any lengths that have room for them.
module _ (a b words room first second whole : List ℕ) where
  abbrev one : Batch Answer
  one = batch_of words room a first

  abbrev two : Batch Answer
  two = batch_of one.state one.room b second

  abbrev both : Batch Answer
  both = batch_of words room (a ++ b) whole

  pub two_batches : {list : List Numbers} {n m k : ℕ} → Bytes a → Holds a 0 list → one.answer ≡ Value n → two.answer ≡ Value m → both.answer ≡ Value k
      → (k ≡ n + m) × (both.state ≡ two.state) × (both.room ≡ two.room)
      × (take (2 * k) both.answers ≡ take (2 * n) one.answers ++ take (2 * m) two.answers)
  two_batches {n = n} {m = m} {k = k} h holds e f g =
      let s1 = steps (readings a) words room in
      let s2 = steps (readings b) one.state one.room in
      let s3 = steps (readings (a ++ b)) words room in
      let d1 = all_done words room a first n e in
      let d2 = all_done one.state one.room b second m f in
      let d3 = all_done words room (a ++ b) whole k g in
      let state : one.state ≡ s1.state = ap (λ (x : Batch Answer). x.state) d1 in
      let room' : one.room ≡ s1.room = ap (λ (x : Batch Answer). x.room) d1 in
      let j : s3 ≡ together (s1.answer ++ s2.answer) s2.state s2.room = rw (state, room') (joined a b words room h holds) in
      let both-answers : s3.answer ≡ s1.answer ++ s2.answer = ap (λ (x : Result (List Answer) (List ℕ)). x.answer) j in (
        omega (arith, counted s1 first one n d1 e, counted s2 second two m d2 f, counted s3 whole both k d3 g, ap length both-answers, length-append s1.answer s2.answer),
        ap (λ (x : Batch Answer). x.state) d3 ∙ ap (λ (x : Result (List Answer) (List ℕ)). x.state) j ∙ sym (ap (λ (x : Batch Answer). x.state) d2),
        ap (λ (x : Batch Answer). x.room) d3 ∙ ap (λ (x : Result (List Answer) (List ℕ)). x.room) j ∙ sym (ap (λ (x : Batch Answer). x.room) d2),
        numbered s3 whole both k d3 g ∙ rw (both-answers, numbered s1 first one n d1 e, numbered s2 second two m d2 f) (numbers_of_both s1.answer s2.answer),
      )
