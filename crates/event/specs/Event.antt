-- What becomes of an event, which is a taken branch, an exception, an exception return, a halt or a resume: document 01, "Which
-- events become records", and of "Cycles" what a record takes; document 02, Five; docs/MANUAL.md, "Exceptions and returns",
-- "Halts and resumes", "Records" and "Cycles". s is the state before the event, by which all of it is judged.
use Rattle.std.specs.Prelude.{ℕ, ◌+◌, Bool, cond, ◌&&◌, ◌||◌, not, eqb}
use Rattle.bits.specs.Bits.{is_set, put}
use Rattle.count.specs.Count.{encoded}
use Rattle.state.specs.declared.State.{State}
use Rattle.state.specs.declared.Running.{Running}
use Rattle.state.specs.Named.{el3_recording_enabled, counting, prediction_shown, PAUSED, side}
use Rattle.region.specs.Region.{prohibited}
use Rattle.room.specs.declared.Record.{Record}
use Rattle.room.specs.declared.Effect.{Effect}
use Rattle.room.specs.declared.Effect.TheVariants.{Keep, Push}
use Rattle.event.specs.declared.Event.{Event}

-- The control of exceptions and returns at a level: bit k of that level's register, BRBCR_EL2 or BRBCR_EL1; at EL3, which has
-- none, whether EL3 is recorded. The level is the one that an exception enters (R_KRJQC) or a return leaves (R_ZSHDL), and so
-- never 0.
unfoldable pub controlled : State → ℕ → ℕ → Bool
controlled s k level = cond (eqb level 3) (el3_recording_enabled s) (cond (eqb level 2) (is_set k s.brbcr2) (is_set k s.brbcr1))

-- VALID, by the sides of the event that are prohibited. Both: 0, no record. The source alone: 1, half-target (R_LPLYK). The
-- target alone: 2, half-source (R_RPVXK). Neither: 3, full (R_GSMRH, R_MLGCF). For exceptions R_YSKQK and R_YBJDJ, for returns
-- R_LMXHS and R_ZTGMW, for Debug state R_LLCTG and R_RBCFP; a branch has one level for both sides.
unfoldable pub valid : State → Event → ℕ
valid s e = cond (prohibited s e.left) (cond (prohibited s e.entered) 0 1) (cond (prohibited s e.entered) 2 3)

-- The record's count is unknown: by the flag of the running count, which the occasions set, or because counting is off.
-- R_MJDLC.
unfoldable pub count_unknown : State → Running → Bool
count_unknown s running = eqb running.unknown 1 || not (counting s)

-- MPRED: the event's mispredicted flag where it is shown (R_XHWRB) and the source side is not prohibited, since a half-target
-- record says nothing of its source. An exception's flag is 0 (R_DHNPJ).
unfoldable pub MPRED : State → Event → ℕ
MPRED s e = cond (prediction_shown s && not (prohibited s e.left)) e.mispredicted 0

-- BRBINF's six fields in their places: CCU, CC, TYPE, EL (the target level), MPRED, VALID. Every other bit is 0, T and
-- LASTFAILED among them.
abbrev pub packed : ℕ → ℕ → ℕ → ℕ → ℕ → ℕ → ℕ
packed ccu cc kind level mpred valid =
    put 46 46 ccu + put 45 32 cc + put 13 8 kind + put 7 6 level + put 5 5 mpred + put 1 0 valid

-- BRBINF of an event, where the running count has the event's own cycles in it. An unknown count is CCU 1 and CC 0
-- (R_PBJTJ); a known one is encoded, all ones where it exceeded the counter (R_XGSSZ, R_JZWPG). A half-source record has
-- level 0.
unfoldable pub BRBINF : State → Running → Event → ℕ
BRBINF s running e =
    packed (cond (count_unknown s running) 1 0) (cond (count_unknown s running) 0 (encoded running.count)) e.kind
    (cond (prohibited s e.entered) 0 e.entered)
    (MPRED s e)
    (valid s e)

-- The record of an event: an address of a prohibited side is not captured, and 0 stands for it. R_YGGSC.
unfoldable pub record_of : State → Running → Event → Record
record_of s running e =
    record { inf = BRBINF s running e; source = cond (prohibited s e.left) 0 e.source; target = cond (prohibited s e.entered) 0 e.target }

-- The event becomes a record: it is wanted, which is what the filter says of a branch and the control of an exception or a
-- return, and which a halt and a resume always are; recording is not paused; and one of its sides is not prohibited.
unfoldable pub becomes_record : State → Bool → Event → Bool
becomes_record s wanted e = wanted && not (PAUSED s) && not (eqb (valid s e) 0)

-- An event of this type and this mispredicted flag, from the side where the processor is to the one that it enters, with its
-- source and its target address.
abbrev pub event_from : State → ℕ → ℕ → ℕ → ℕ → ℕ → Event
event_from s kind mispredicted entered source target =
    record { kind = kind; mispredicted = mispredicted; left = side s; entered = entered; source = source; target = target }

-- What an event does to the records, where the running count has its cycles in it: its own becomes the newest, or nothing.
abbrev pub event_effect : State → Bool → Event → Running → Effect
event_effect s wanted e running = cond (becomes_record s wanted e) (Push (record_of s running e)) Keep
