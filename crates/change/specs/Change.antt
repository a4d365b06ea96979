-- What an accepted operation does to the running count, and what its clause comes to: document 01, "Cycles"; document 02, One and
-- Five; docs/MANUAL.md, "Cycles".
use Rattle.std.specs.Prelude.{ℕ, Bool, ◌&&◌, ◌||◌, not, List, eqb}
use Rattle.state.specs.declared.State.{State}
use Rattle.state.specs.declared.Running.{Running}
use Rattle.state.specs.Named.{counting, PAUSED, side, with_running, running_after_reset}
use Rattle.running.specs.Ran.{ran}
use Rattle.room.specs.declared.Effect.{Effect}
use Rattle.room.specs.declared.Effect.TheVariants.{Keep, Push, Clear, ResetTo}
use Rattle.room.specs.Room.{records}
use Rattle.region.specs.Region.{prohibited}
use Rattle.answer.specs.declared.Answer.{Answer}
use Rattle.answer.specs.Answer.{is_done}
use Rattle.access.specs.Access.{iall_outcome}
use Rattle.operation.specs.declared.Operation.{Operation}
use Rattle.operation.specs.Operation.{code_of}
use Rattle.operation.specs.Clause.{does, changed}
use Rattle.change.specs.declared.Decided.{Decided}

-- The operation turned counting on: a write, if it did so.
abbrev pub turned_counting_on : State → Operation → Bool
turned_counting_on s o = not (counting s) && counting (changed s o)

-- The operation cleared PAUSED: a write, or a reset, which makes the next count unknown by itself.
abbrev pub cleared_paused : State → Operation → Bool
cleared_paused s o = PAUSED s && not (PAUSED (changed s o))

-- The operation is a BRB IALL, code 7, and is performed: neither undefined nor trapped.
abbrev pub performed_iall : State → Operation → Bool
performed_iall s o = eqb (code_of o) 7 && is_done (iall_outcome s)

-- An operation on which the next count becomes unknown, by the state before it. The lines are R_MJDLC's third to sixth: it began
-- at a prohibited level or in Debug state (house: R_MJDLC speaks of leaving a prohibited region); it turned counting on; it
-- cleared PAUSED; it was a BRB IALL that was executed (document 02, One, adds this line to document 01's three). A freeze is none
-- by itself: it sets PAUSED.
unfoldable pub occasion : State → Operation → Bool
occasion s o =
    prohibited s (side s)
    || turned_counting_on s o
    || cleared_paused s o
    || performed_iall s o

-- The running count once the operation's cycles are in it, before a record takes it.
unfoldable pub passed : State → Operation → ℕ → Running
passed s o cycles = ran s.running (occasion s o) cycles

-- What an accepted operation does to the records, where the running count has the operation's cycles in it.
unfoldable pub effect_of : State → Operation → Running → Effect
effect_of s o running = (does s o).asks running

-- What an accepted operation answers, where the records stand in this room.
unfoldable pub answer_of : State → Operation → List ℕ → Answer
answer_of s o room = (does s o).answers (records s.size s.start room)

-- The running count after the effect: a record takes it, and it runs anew from 0, known again; BRB IALL lets it run on; a
-- reset drops it, its own cycles too, as `after_reset` has it. (R_KVRBB: a count is of the cycles since the record before.)
abbrev pub running_after : Effect → Running → Running
running_after Keep running = running
running_after (Push new) running = record { count = 0; unknown = 0 }
running_after Clear running = running
running_after (ResetTo size) running = running_after_reset

-- All that an accepted operation comes to: its answer, the state after it, and what it does to the records. The running count takes
-- its cycles, and then a record takes the running count.
abbrev pub decided : State → Operation → ℕ → List ℕ → Decided
decided s o cycles room =
    let running = passed s o cycles in
    let effect = effect_of s o running in
    record { answer = answer_of s o room; state = with_running (running_after effect running) (changed s o); effect = effect }
