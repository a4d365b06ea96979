-- Sequences of operations, and the words of demand 3: over neighbouring records that are there, all but the oldest of them with
-- a known count, the decoded counts S and the exact time T from the oldest's event to the newest's differ by at most one part
-- in 256 of S, S is not above T, and T is not above the upper ends U of the counts (document 02, "Four").
use Rattle.std.specs.Prelude.{ℕ, zero, suc, ◌+◌, ◌*◌, ◌-◌, ◌≤◌, Bool, true, false, cond, ◌&&◌, not, List, [], ◌∷◌, ◌≡◌, eqb, length, get_or}
use Rattle.bits.specs.Bits.{part}
use Rattle.count.specs.declared.Decoded.{Decoded}
use Rattle.count.specs.declared.Decoded.TheVariants.{Known, Exceeded, Refused}
use Rattle.count.specs.declared.Spread.{Spread}
use Rattle.count.specs.Count.{decoded, spread_of}
use Rattle.state.specs.declared.State.{State}
use Rattle.state.specs.Named.{fresh}
use Rattle.room.specs.declared.Record.{Record}
use Rattle.room.specs.declared.Effect.{Effect}
use Rattle.room.specs.declared.Effect.TheVariants.{Keep, Push, Clear, ResetTo}
use Rattle.room.specs.Room.{zero_record, records, numbered}
use Rattle.operation.specs.declared.Operation.{Operation}
use Rattle.operation.specs.declared.Operation.TheVariants.{Reset}
use Rattle.operation.specs.Refusal.{refusal_of}
use Rattle.change.specs.Change.{passed, effect_of}
use Rattle.recorder.specs.Step.{step_of}

-- ---- the plain run

-- One operation of a sequence, and the cycles passed since the previous one.
pub record Timed : Type 0 where
  pub operation : Operation
  pub cycles : ℕ

-- What the model holds between two operations: the state and the lent room.
pub record Machine : Type 0 where
  pub state : State
  pub room : List ℕ

-- State and room as one step leaves them; a refused operation leaves them as they were.
unfoldable pub stepped : Machine → Timed → Machine
stepped m t =
    let after = step_of m.state t.operation t.cycles m.room in
    record { state = after.state; room = after.room }

-- One step after another.
unfoldable pub run : Machine → List Timed → Machine
run m [] = m
run m (t ∷ list) = run (stepped m t) list

-- The records as reads show them: newest first, as many as the size.
abbrev pub shown : Machine → List Record
shown m = records m.state.size m.state.start m.room

-- ---- the noted run: the same run, with the exact time of each record written down beside it

-- A record that was made, and the clock when it was made, that event's cycles included.
pub record Note : Type 0 where
  pub time : ℕ
  pub made : Record

-- Beside the machine stand the clock, which is the sum, without bound, of the cycles of the operations accepted since the
-- last reset (the reset's own are dropped), and a note of every record made since then, newest first.
pub record Noted : Type 0 where
  pub machine : Machine
  pub clock : ℕ
  pub notes : List Note

-- The operation is accepted: no line of the table of refusals holds.
abbrev pub is_accepted : Machine → Timed → Bool
is_accepted m t = eqb (refusal_of m.state t.operation (length m.room)) 0

-- What an accepted operation does to the records.
abbrev pub effect_in : Machine → Timed → Effect
effect_in m t = effect_of m.state t.operation (passed m.state t.operation t.cycles)

-- A reset sets the clock anew; BRB IALL lets it run on. `now` is the clock with the operation's cycles.
abbrev pub clock_after : Effect → ℕ → ℕ
clock_after Keep now = now
clock_after (Push new) now = now
clock_after Clear now = now
clock_after (ResetTo size) now = 0

-- A new record is noted. A reset drops the notes. BRB IALL keeps them, since the next count still runs from the last record.
abbrev pub notes_after : Effect → ℕ → List Note → List Note
notes_after Keep now notes = notes
notes_after (Push new) now notes = record { time = now; made = new } ∷ notes
notes_after Clear now notes = notes
notes_after (ResetTo size) now notes = []

-- A refused operation changes neither clock nor notes: its cycles do not count.
unfoldable pub noted_step : Noted → Timed → Noted
noted_step x t =
    record {
      machine = stepped x.machine t;
      clock = cond (is_accepted x.machine t) (clock_after (effect_in x.machine t) (x.clock + t.cycles)) x.clock;
      notes = cond (is_accepted x.machine t) (notes_after (effect_in x.machine t) (x.clock + t.cycles) x.notes) x.notes;
    }

-- One noted step after another.
unfoldable pub noted_run : Noted → List Timed → Noted
noted_run x [] = x
noted_run x (t ∷ list) = noted_run (noted_step x t) list

-- The noted run of a machine, with nothing noted before it, and its notes.
abbrev pub history : Machine → List Timed → Noted
history m list = noted_run (record { machine = m; clock = 0; notes = [] }) list

-- The notes of the noted run.
abbrev pub notes_of : Machine → List Timed → List Note
notes_of m list = (history m list).notes

-- Note number i; the newest is number 0.
abbrev pub note : ℕ → List Note → Note
note i notes = get_or notes i (record { time = 0; made = zero_record })

-- ---- sequences from a reset

-- A reset of this size and version, with the cycles passed before it.
abbrev pub reset_with : ℕ → ℕ → ℕ → Timed
reset_with size v1p1 cycles = record { operation = Reset size v1p1; cycles = cycles }

-- A sequence from a reset: its first operation is a reset that is accepted, whatever the machine held before. Or the state
-- is the fresh one, in which nothing but a reset is accepted (refusal 3).
pub data FromReset : Machine → List Timed → Type 0 where
  reset : {m : Machine} {size v1p1 cycles : ℕ} {list : List Timed} → is_accepted m (reset_with size v1p1 cycles) ≡ true
      → FromReset m (reset_with size v1p1 cycles ∷ list)
  unset : {room : List ℕ} {list : List Timed} → FromReset (record { state = fresh; room = room }) list

-- ---- stretches of neighbouring records

-- BRBINF's field CCU.
abbrev pub CCU : Record → ℕ
CCU r = part 46 46 r.inf

-- BRBINF's field CC.
abbrev pub CC : Record → ℕ
CC r = part 45 32 r.inf

-- BRBINF's field VALID.
abbrev pub VALID : Record → ℕ
VALID r = part 1 0 r.inf

-- The record is there: full or half (R_XRHTY).
abbrev pub is_valid : Record → Bool
is_valid r = not (eqb (VALID r) 0)

-- Decoding gave a count.
abbrev pub is_known : Decoded → Bool
is_known (Known low high) = true
is_known Exceeded = false
is_known Refused = false

-- The record has a known, not exceeded count.
abbrev pub is_counted : Record → Bool
is_counted r = eqb (CCU r) 0 && is_known (decoded (CC r))

-- That count, decoded: its two ends, as `brb_count_decode` answers them.
abbrev pub spread : Record → Spread
spread r = spread_of (decoded (CC r))

-- The records i to i + n of a list are all valid, and all but the oldest, which is i + n, are counted.
unfoldable pub stretch : List Record → ℕ → ℕ → Bool
stretch list i zero = is_valid (numbered i list)
stretch list i (suc n) = is_valid (numbered i list) && is_counted (numbered i list) && stretch list (suc i) n

-- One end of the decoded counts of the records i to i + n, the oldest left out, added up.
unfoldable pub end_sum : (Spread → ℕ) → List Record → ℕ → ℕ → ℕ
end_sum end list i zero = 0
end_sum end list i (suc n) = end (spread (numbered i list)) + end_sum end list (suc i) n

-- S: the decoded counts added up, each its smallest.
abbrev pub S : List Record → ℕ → ℕ → ℕ
S list i n = end_sum (λ x. x.low) list i n

-- U: their upper ends added up.
abbrev pub U : List Record → ℕ → ℕ → ℕ
U list i n = end_sum (λ x. x.high) list i n

-- The CC fields that a host adds up for S and U: those of the records i to i + n, the oldest left out.
unfoldable pub encodings : List Record → ℕ → ℕ → List ℕ
encodings list i zero = []
encodings list i (suc n) = CC (numbered i list) ∷ encodings list (suc i) n

-- T: the time from the event of record i + n to that of record i, by their notes.
abbrev pub T : List Note → ℕ → ℕ → ℕ
T notes i n = (note i notes).time - (note (i + n) notes).time

-- The same by the operations alone, without clock or notes: the cycles of the accepted ones.
unfoldable pub accepted_cycles : Machine → List Timed → ℕ
accepted_cycles m [] = 0
accepted_cycles m (t ∷ list) = cond (is_accepted m t) t.cycles 0 + accepted_cycles (stepped m t) list

-- No cycles have passed since the newest record was made, as right after its event: its note has the present time.
abbrev pub just_made : Noted → Type 0
just_made x = (note 0 x.notes).time ≡ x.clock

-- Demand 3's two inequalities.
abbrev pub Near : ℕ → ℕ → Type 0
Near s t = (s ≤ t) × (256 * (t - s) ≤ s)

-- And its third part: the time is near S and not above U.
pub record Within (s u t : ℕ) : Type 0 where
  pub near : Near s t
  pub under : t ≤ u
