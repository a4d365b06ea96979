-- A batch is the single calls, one after another: state, room and answers are theirs. So it is a run of the operations that the recording
-- holds, and what demands 2 and 3 say of runs, they say of batches.
use Prim.Native.Nat.{ℕ, zero, suc, ◌*◌, ◌≤◌, ◌<◌}
use native.Mathlib.Omega.{arith}
use mathlib.Core.Path.{◌≡◌, refl, sym, ap, subst}
use mathlib.Core.Bool.{Bool, true, false}
use mathlib.Core.Logic.{⊎_elim}
use mathlib.Core.List.{List, [], ◌∷◌, map}
use lib.ListN.{length, length-map}
use borrow.Author.Tests.{le-leb, lt-leb, le-ltb}
use Rattle.bits.specs.Bits.{one_of}
use Rattle.bits.proofs.Cases.{below_or_not}
use Rattle.answer.specs.declared.Answer.{Answer}
use Rattle.answer.specs.Answer.{returned}
use Rattle.number.specs.Number.{written}
use Rattle.number.proofs.Laws.{Bytes}
use Rattle.state.specs.declared.State.{State}
use Rattle.state.specs.Parts.{state_numbers}
use Rattle.state.specs.Sound.{sound}
use Rattle.state.specs.Words.{stored}
use Rattle.state.proofs.Laws.{loaded-stored, stored_again}
use Rattle.operation.specs.declared.Operation.{Operation}
use Rattle.operation.specs.Refusal.{unknown_code}
use Rattle.recorder.specs.Result.{Result}
use Rattle.recorder.specs.Step.{step_of}
use Rattle.recorder.specs.Lent.{lent_step}
use Rattle.recording.specs.declared.Numbers.{Numbers}
use Rattle.recording.specs.Recording.{Reading}
use Rattle.recording.specs.Recording.{operation_at}
use Rattle.recording.specs.Operations.{Holds, ends, reads}
use Rattle.recording.proofs.Laws.{what_was_read}
use Rattle.recording.proofs.Window.{refused_by}
use Rattle.recording.specs.Run.{read_from, readings}
use Rattle.batch.specs.Batch.{batched, steps, in_numbers, batch_of}
use Rattle.recording.proofs.Run.{left as from, all_left, none_left, one_left}
use Rattle.brb.specs.Face.{step_result}
use Rattle.brb.specs.Recordings.{recorded_result, batch_result}
use Rattle.demands.specs.First.{First, here, later, none, done, undefined, trap2, trap3, AnswersBy, refuses, accepts}
use Rattle.demands.proofs.Demand1.{step_number}
use Rattle.history.specs.History.{Machine, stepped, run}
use Rattle.history.proofs.Sound.{sound_kept}
use Rattle.face.specs.Calls.{Lent, step_call, Called, called_first, calls_along, in_pairs, timed, holding, with_next}
use Rattle.face.proofs.Refuses.{known_code}
use Rattle.face.proofs.Runs.{call_left, recorded_call_lem}
use Rattle.recording.specs.declared.Damage.{Damage}
use Rattle.answer.specs.Answer.{refusal_number}
use Rattle.std.proofs.Common.{Ok, Err}

-- ---- behind an operation that was read, a host reads on

of_lines : (a b c d e : Bool) {n : ℕ} → First ((3, a) ∷ (4, b) ∷ (8, c) ∷ (5, d) ∷ (6, e) ∷ []) n → one_of (7 ∷ 1 ∷ 2 ∷ []) n ≡ false
of_lines true b c d e here = refl
of_lines false true c d e (later here) = refl
of_lines false false true d e (later (later here)) = refl
of_lines false false false true e (later (later (later here))) = refl
of_lines false false false false true (later (later (later (later here)))) = refl
of_lines false false false false false (later (later (later (later (later none))))) = refl

reads_on : (s : State) (o : Operation) (cycles : ℕ) (room : List ℕ) → sound s ≡ true → unknown_code o ≡ false
    → one_of (7 ∷ 1 ∷ 2 ∷ []) (returned (step_of s o cycles room).answer).number ≡ false
reads_on s o cycles room h k = go (rw (h, k) at (step_number s o cycles room))
  where
    go : {a b c d e : Bool} {n : ℕ} → AnswersBy ((7, false) ∷ (2, false) ∷ (3, a) ∷ (4, b) ∷ (8, c) ∷ (5, d) ∷ (6, e) ∷ []) n → one_of (7 ∷ 1 ∷ 2 ∷ []) n ≡ false
    go (refuses (later (later f)) some) = of_lines _ _ _ _ _ f
    go (accepts f done) = refl
    go (accepts f undefined) = refl
    go (accepts f trap2) = refl
    go (accepts f trap3) = refl

-- ---- the calls along a run

paired : (list : List Answer) → in_pairs (map returned list) ≡ in_numbers list
unfolding in_pairs in_numbers
paired [] = refl
paired (a ∷ list) = ap (λ (rest : List ℕ). (returned a).number ∷ (returned a).value ∷ rest) (paired list)

-- What steps leave, as calls leave it.
abbrev as_called : Result (List Answer) (List ℕ) → Called
as_called r = record { answers = map returned r.answer; lent = record { words = r.state; room = r.room } }

module _ (words : List ℕ) (enough : state_numbers ≤ length words) (bytes : List ℕ) (each : Bytes bytes) where
  -- What stands at a position, and what is read behind it.
  abbrev Along : ℕ → Machine → ℕ → Type 0
  Along k m at = calls_along k bytes (holding words m) at ≡ as_called (steps (read_from k bytes at) (stored m.state words) m.room)

  -- The call that finds an operation, and those behind it.
  same_answer : (m : Machine) (n : Numbers) → sound m.state ≡ true
      → (step_call (holding words m) n).answer ≡ returned (step_of m.state (timed n).operation n.cycles m.room).answer
  unfolding step_result lent_step
  same_answer m n h = rw (loaded-stored m.state words enough h)

  found : (k : ℕ) (m : Machine) (at : ℕ) (n : Numbers) (next : ℕ) → sound m.state ≡ true → at < length bytes
      → operation_at bytes at ≡ Ok (n, next)
      → Along k (stepped m (timed n)) next
      → Along (suc k) m at
  unfolding calls_along read_from steps step_result
  found k m at n next h l e rest =
      let known = known_code n.code n.a n.b n.c n.d (what_was_read bytes at n next each e).again.known in
      let on : one_of (7 ∷ 1 ∷ 2 ∷ []) (step_call (holding words m) n).answer.number ≡ false =
      rw (same_answer m n h) (reads_on m.state (timed n).operation n.cycles m.room h known)
      in
      let behind = subst (λ (x : Lent). calls_along k bytes x next ≡ as_called (steps (read_from k bytes next) x.words x.room)) (sym (call_left words enough m n h)) rest in
      rw (lt-leb (length bytes) at l, recorded_call_lem words enough m bytes at n next h e, e, on)
      (ap (called_first (with_next next (step_call (holding words m) n)).answer) behind)

  -- The call that finds none is the last.
  stops : (k : ℕ) (m : Machine) (at : ℕ) (d : Damage) → sound m.state ≡ true → at < length bytes
      → operation_at bytes at ≡ Err d
      → one_of (7 ∷ 1 ∷ 2 ∷ []) (refusal_number d.refusal) ≡ true
      → Along (suc k) m at
  unfolding calls_along read_from steps recorded_result
  stops k m at d h l e stop =
      rw (lt-leb (length bytes) at l, loaded-stored m.state words enough h, e, stop, stored_again m.state m.state words)

  along : (k : ℕ) (m : Machine) (at : ℕ) → sound m.state ≡ true → Along k m at
  unfolding calls_along read_from steps
  along zero m at h = refl
  along (suc k) m at h =
      ⊎_elim (λ (l : at < length bytes). go l (λ next. along k next) (operation_at bytes at) refl)
      (λ (l : length bytes ≤ at). rw (le-leb (length bytes) at l)) (below_or_not at (length bytes))
    where
      go : at < length bytes → ((next : Machine) (place : ℕ) → sound next.state ≡ true → Along k next place) → (r : Reading)
          → operation_at bytes at ≡ r
          → Along (suc k) m at
      go l rest (Ok (n, next)) e = found k m at n next h l e (rest (stepped m (timed n)) next (sound_kept m (timed n) h))
      go l rest (Err d) e =
          stops k m at d h l e
          (⊎_elim (λ (one : refusal_number d.refusal ≡ 1). rw one refl) (λ (two : refusal_number d.refusal ≡ 2). rw two refl) (refused_by bytes at d e))

  -- A batch whose answers have room: what calls of `brb_step_recorded` along the run answer, and the lent memory that they leave.
  pub batch_is_calls : (m : Machine) (answers : List ℕ) → sound m.state ≡ true → 2 * length (readings bytes) ≤ length answers
      → (let c = calls_along (length bytes) bytes (holding words m) 0 in
      batch_result (holding words m).words m.room bytes answers
      ≡ batched (record { number = 0; value = length c.answers }) c.lent.words c.lent.room (written answers 0 (in_pairs c.answers)))
  unfolding batch_result batch_of readings
  batch_is_calls m answers h room =
      let r = steps (readings bytes) (stored m.state words) m.room in
      rw (along (length bytes) m 0 h, loaded-stored m.state words enough h, le-ltb (length answers) (2 * length (readings bytes)) room, paired r.answer, length-map r.answer returned)

  -- ... and of a recording that reads to its end, the run of its operations.
  abbrev left_by : Result (List Answer) (List ℕ) → Lent
  left_by r = record { words = r.state; room = r.room }

  held_along : {at : ℕ} {list : List Numbers} (m : Machine) → sound m.state ≡ true → Holds bytes at list
      → left_by (steps (from bytes at) (stored m.state words) m.room) ≡ holding words (run m (map timed list))
  unfolding steps run step_result
  held_along {at} m h (ends past) = rw (none_left bytes at past)
  held_along {at} m h (reads {next = next} {x = n} {list = list} e rest) =
      let r = what_was_read bytes at n next each e in
      let behind = held_along (stepped m (timed n)) (sound_kept m (timed n) h) rest in
      rw (one_left bytes at (omega (arith, r.further, r.within)), e)
      (subst (λ (x : Lent). left_by (steps (from bytes next) x.words x.room) ≡ holding words (run (stepped m (timed n)) (map timed list))) (sym (call_left words enough m n h)) behind)

  pub batch_run : (m : Machine) (answers : List ℕ) {list : List Numbers} → sound m.state ≡ true → 2 * length (readings bytes) ≤ length answers
      → Holds bytes 0 list
      → (let b = batch_result (holding words m).words m.room bytes answers in
      record { words = b.state; room = b.room } ≡ holding words (run m (map timed list)))
  unfolding batch_result batch_of
  batch_run m answers h room holds =
      rw (loaded-stored m.state words enough h, le-ltb (length answers) (2 * length (readings bytes)) room, ← all_left bytes) (held_along m h holds)
