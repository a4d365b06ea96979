-- Any sequence of calls on one lent memory is the run of the operations that they stand for: what demands 2 and 3 say of runs, they
-- say of what a host sees.
use Prim.Native.Nat.{ℕ, ◌≤◌}
use mathlib.Core.Path.{◌≡◌, refl, ap, ◌∙◌}
use mathlib.Core.Bool.{true}
use mathlib.Core.List.{List, [], ◌∷◌, map}
use lib.ListN.{length, replicate}
use Rattle.answer.specs.Answer.{returned}
use Rattle.state.specs.declared.State.{State}
use Rattle.state.specs.Named.{fresh}
use Rattle.state.specs.Parts.{state_numbers}
use Rattle.state.specs.Sound.{unavailable, sound}
use Rattle.state.specs.Words.{loaded, judged, stored}
use Rattle.state.proofs.Laws.{load_stored, loaded-stored, stored_again, kept}
use Rattle.room.specs.Room.{in_place, records, cleared, room_after, start_after}
use Rattle.region.specs.Region.{enabled, prohibited}
use Rattle.access.specs.Access.{n_bit, trapped2, outcome, read_outcome, register_value}
use Rattle.operation.specs.Operation.{operation_of}
use Rattle.operation.specs.Refusal.{unknown_code, not_reset, outside_list, wrong_halted, wrong_level, room_too_short, refusal_of}
use Rattle.operation.specs.Clause.{changed}
use Rattle.change.specs.Change.{occasion, passed, effect_of, answer_of}
use Rattle.recorder.specs.Result.{Result}
use Rattle.recorder.specs.Step.{accepted, step_of}
use Rattle.recorder.specs.Lent.{lent_step}
use Rattle.recording.specs.declared.Numbers.{Numbers}
use Rattle.recording.specs.Recording.{Reading}
use Rattle.recording.specs.Recording.{numbers, operation_at}
use Rattle.recording.specs.Operations.{Holds, ends, reads}
use Rattle.brb.specs.declared.BrbRecorded.{BrbRecorded}
use Rattle.brb.specs.Face.{step_result}
use Rattle.brb.specs.Recordings.{recorded_result}
use Rattle.history.specs.History.{Machine, stepped, run, shown}
use Rattle.history.proofs.Sound.{sound_kept, sound-run}
use Rattle.face.specs.Calls.{Lent, step_call, recorded_call, left, calls, Position, recorded_calls, calls_through, operations_at, timed, holding, with_next, records_in}
use Rattle.std.proofs.Common.{Some, None}
use Rattle.std.proofs.Common.{Ok, Err}

module _ (words : List ℕ) (enough : state_numbers ≤ length words) where
  pub call_left : (m : Machine) (n : Numbers) → sound m.state ≡ true → left (step_call (holding words m) n) ≡ holding words (stepped m (timed n))
  unfolding step_result lent_step stepped
  call_left m n h = rw (loaded-stored m.state words enough h, stored_again m.state _ words)

  pub calls-run : (m : Machine) (list : List Numbers) → sound m.state ≡ true → calls (holding words m) list ≡ holding words (run m (map timed list))
  unfolding calls run
  calls-run m [] h = refl
  calls-run m (n ∷ list) h = rw (call_left m n h) (calls-run (stepped m (timed n)) list (sound_kept m (timed n) h))

  -- ... and what the next call answers is what the step of that run's state answers.
  pub call_answers : (m : Machine) (list : List Numbers) (n : Numbers) → sound m.state ≡ true
      → (step_call (calls (holding words m) list) n).answer
      ≡ returned (step_of (run m (map timed list)).state (timed n).operation n.cycles (run m (map timed list)).room).answer
  unfolding step_result lent_step
  call_answers m list n h =
      rw (calls-run m list h, loaded-stored (run m (map timed list)).state words enough (sound-run m (map timed list) h))

  -- ... and the records that the lent memory then holds are the run's, so that what is proved of a run's records is of what a host finds.
  pub records-run : (m : Machine) (list : List Numbers) → sound m.state ≡ true
      → records_in (calls (holding words m) list) ≡ shown (run m (map timed list))
  records-run m list h =
      let end = run m (map timed list) in
      ap records_in (calls-run m list h) ∙ ap (λ (s : State). records s.size s.start end.room) (load_stored end.state words enough)

  -- A recorded call that finds an operation is the call with that operation's numbers, and answers where reading goes on.
  pub recorded_call_lem : (m : Machine) (bytes : List ℕ) (at : ℕ) (n : Numbers) (next : ℕ) → sound m.state ≡ true
      → operation_at bytes at ≡ Ok (n, next)
      → recorded_call bytes (holding words m) at ≡ with_next next (step_call (holding words m) n)
  unfolding recorded_result step_result lent_step
  recorded_call_lem m bytes at n next h e = rw (loaded-stored m.state words enough h, e)

  -- Recorded calls at any positions are the run of the operations that stand there.
  pub recorded_calls_run : (m : Machine) (list : List Position) → sound m.state ≡ true
      → recorded_calls (holding words m) list ≡ holding words (run m (map timed (operations_at list)))
  unfolding recorded_calls operations_at recorded_result run
  recorded_calls_run m [] h = refl
  recorded_calls_run m (p ∷ list) h = go (λ next. recorded_calls_run next list) (operation_at p.bytes p.at) refl
    where
      go : ((next : Machine) → sound next.state ≡ true → recorded_calls (holding words next) list ≡ holding words (run next (map timed (operations_at list))))
          → (found : Reading) → operation_at p.bytes p.at ≡ found
          → recorded_calls (holding words m) (p ∷ list) ≡ holding words (run m (map timed (operations_at (p ∷ list))))
      go rest (Ok (n, next)) e =
          rw (recorded_call_lem m p.bytes p.at n next h e, call_left m n h, e)
          (rest (stepped m (timed n)) (sound_kept m (timed n) h))
      go rest (Err d) e = rw (loaded-stored m.state words enough h, e, stored_again m.state m.state words) (rest m h)

  -- As many recorded calls as a recording holds operations, each at the position that the one before answered, are the run of those
  -- operations.
  pub recording_run : {bytes : List ℕ} {at : ℕ} {list : List Numbers} (m : Machine) → sound m.state ≡ true → Holds bytes at list
      → calls_through (length list) bytes (holding words m) at ≡ holding words (run m (map timed list))
  unfolding calls_through run
  recording_run m h (ends past) = refl
  recording_run {bytes} m h (reads {at = at} {next = next} {x = n} {list = list} e rest) =
      ap (λ (r : Result BrbRecorded (List ℕ)). calls_through (length list) bytes (left r) r.answer.next) (recorded_call_lem m bytes at n next h e)
      ∙ ap (λ (x : Lent). calls_through (length list) bytes x next) (call_left m n h)
      ∙ recording_run (stepped m (timed n)) (sound_kept m (timed n) h) rest

-- Lent numbers that hold no sound state are left as they are by every call.
pub calls_unsound : (x : Lent) (list : List Numbers) → loaded x.words ≡ None → calls x list ≡ x
unfolding calls step_result lent_step
calls_unsound x [] e = refl
calls_unsound x (n ∷ list) e = rw e (calls_unsound x list e)

-- ... and those that hold one are what `holding` says.
pub held_lent : (x : Lent) (s : State) → loaded x.words ≡ Some s → x ≡ holding x.words (record { state = s; room = x.room })
held_lent x s e = rw (kept x.words s e)

-- Nine zeros hold the fresh state, so that every sequence of a host that begins with them is a run from it. Closed: a reset, and then a
-- read of BRBIDR0_EL1, which answers 0x5008.
abbrev start : Lent
start = record { words = replicate state_numbers 0; room = replicate 24 0 }

pub closed_calls : (loaded (replicate state_numbers 0) ≡ Some fresh)
    × ((step_call (calls start (numbers 0 0 8 0 0 0 ∷ [])) (numbers 5 3 0 0 0 0)).answer ≡ record { number = 0; value = 0x5008 })
unfolding loaded judged stored unavailable sound calls step_result lent_step step_of accepted answer_of refusal_of unknown_code not_reset outside_list wrong_halted wrong_level room_too_short changed occasion passed effect_of room_after start_after cleared in_place records read_outcome outcome trapped2 n_bit register_value operation_of prohibited enabled
closed_calls = (refl, refl)
