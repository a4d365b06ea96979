-- Sequences of calls on one lent memory, as a host makes them, and the sequence of operations that they stand for.
use Rattle.std.specs.Prelude.{ℕ, zero, suc, cond, List, [], ◌∷◌, leb, length}
use Rattle.bits.specs.Bits.{one_of}
use Rattle.answer.specs.declared.Returned.{Returned}
use Rattle.state.specs.Parts.{state_of}
use Rattle.state.specs.Words.{stored}
use Rattle.room.specs.declared.Record.{Record}
use Rattle.room.specs.Room.{records}
use Rattle.operation.specs.Operation.{operation_of}
use Rattle.recorder.specs.Result.{Result, together}
use Rattle.recording.specs.declared.Numbers.{Numbers}
use Rattle.recording.specs.Recording.{Reading}
use Rattle.recording.specs.Recording.{operation_at}
use Rattle.brb.specs.declared.BrbRecorded.{BrbRecorded}
use Rattle.brb.specs.Face.{step_result}
use Rattle.brb.specs.Recordings.{recorded_result}
use Rattle.history.specs.History.{Timed, Machine}
use Rattle.std.specs.Prelude.{Ok, Err}

-- What a host lends: the state's numbers, and the room.
pub record Lent : Type 0 where
  pub words : List ℕ
  pub room : List ℕ

-- What one call of `brb_step` with these six numbers answers and leaves.
abbrev pub step_call : Lent → Numbers → Result Returned (List ℕ)
step_call x n = step_result x.words n.code n.cycles n.a n.b n.c n.d x.room

-- What one call of `brb_step_recorded` on these bytes at this position answers and leaves.
abbrev pub recorded_call : List ℕ → Lent → ℕ → Result BrbRecorded (List ℕ)
recorded_call bytes x at = recorded_result x.words x.room bytes at

-- The lent memory after a call.
abbrev pub left : {A : Type 0} → Result A (List ℕ) → Lent
left r = record { words = r.state; room = r.room }

-- One call of `brb_step` after another on one lent memory.
unfoldable pub calls : Lent → List Numbers → Lent
calls x [] = x
calls x (n ∷ list) = calls (left (step_call x n)) list

-- A position in a recording.
pub record Position : Type 0 where
  pub bytes : List ℕ
  pub at : ℕ

-- One call of `brb_step_recorded` after another on one lent memory, each at any position of any recording.
unfoldable pub recorded_calls : Lent → List Position → Lent
recorded_calls x [] = x
recorded_calls x (p ∷ list) = recorded_calls (left (recorded_call p.bytes x p.at)) list

-- So many calls of it on one recording, each at the position that the call before answered.
unfoldable pub calls_through : ℕ → List ℕ → Lent → ℕ → Lent
calls_through zero bytes x at = x
calls_through (suc k) bytes x at = calls_through k bytes (left (recorded_call bytes x at)) (recorded_call bytes x at).answer.next

-- What calls of it answered, each as its number and its value, and the lent memory after the last.
pub record Called : Type 0 where
  pub answers : List Returned
  pub lent : Lent

-- No call.
abbrev pub no_call : Lent → Called
no_call x = record { answers = []; lent = x }

-- A call's answer, in front of those of the calls after it.
abbrev pub called_first : BrbRecorded → Called → Called
called_first r rest = record { answers = record { number = r.number; value = r.value } ∷ rest.answers; lent = rest.lent }

-- The calls of it along a run, at most so many, as a host makes them: each at the position that the call before answered, none at
-- the end of the bytes, and none behind an answer 7, 1 or 2.
unfoldable pub calls_along : ℕ → List ℕ → Lent → ℕ → Called
calls_along zero bytes x at = no_call x
calls_along (suc k) bytes x at =
    let r = recorded_call bytes x at in
    let rest = calls_along k bytes (left r) r.answer.next in
    cond (leb (length bytes) at) (no_call x) (called_first r.answer (cond (one_of (7 ∷ 1 ∷ 2 ∷ []) r.answer.number) (no_call (left r)) rest))

-- Answers as numbers, two each.
unfoldable pub in_pairs : List Returned → List ℕ
in_pairs [] = []
in_pairs (r ∷ list) = r.number ∷ r.value ∷ in_pairs list

-- What was read, in front of some operations: nothing where reading was refused.
abbrev pub with_read : Reading → List Numbers → List Numbers
with_read (Ok (n, next)) list = n ∷ list
with_read (Err d) list = list

-- The operations that stand at some positions.
unfoldable pub operations_at : List Position → List Numbers
operations_at [] = []
operations_at (p ∷ list) = with_read (operation_at p.bytes p.at) (operations_at list)

-- The operation, with its cycles, that six numbers stand for.
abbrev pub timed : Numbers → Timed
timed n = record { operation = operation_of n.code n.a n.b n.c n.d; cycles = n.cycles }

-- Lent memory that holds the machine: its state in these numbers, and its room.
abbrev pub holding : List ℕ → Machine → Lent
holding words m = record { words = stored m.state words; room = m.room }

-- A call's result, with the position where reading goes on.
abbrev pub with_next : ℕ → Result Returned (List ℕ) → Result BrbRecorded (List ℕ)
with_next next r = together (record { number = r.answer.number; value = r.answer.value; next = next }) r.state r.room

-- The records that lent memory holds, newest first, as many as the size that it holds.
abbrev pub records_in : Lent → List Record
records_in x = records (state_of x.words).size (state_of x.words).start x.room
