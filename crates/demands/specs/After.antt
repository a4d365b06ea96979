-- The list of records after an effect, and what is meant by an event's two sides.
use Rattle.std.specs.Prelude.{ℕ, ◌-◌, List, ◌∷◌, take, replicate}
use Rattle.state.specs.declared.State.{State}
use Rattle.state.specs.Named.{debug_state, side}
use Rattle.room.specs.declared.Record.{Record}
use Rattle.room.specs.declared.Effect.{Effect}
use Rattle.room.specs.declared.Effect.TheVariants.{Keep, Push, Clear, ResetTo}
use Rattle.room.specs.Room.{zero_record, records}
use Rattle.answer.specs.declared.Answer.{Answer}
use Rattle.recorder.specs.Result.{Result}
use Rattle.operation.specs.declared.Operation.{Operation}
use Rattle.operation.specs.declared.Operation.TheVariants.{Branch, Exception, Return, Read, Write, Iall, Halt, Resume}
use Rattle.event.specs.declared.Event.{Event}
use Rattle.event.specs.Event.{event_from}

-- The list after an effect, where it had as many records as the size before: a new record stands in front and the last one
-- falls off; BRB IALL and a reset leave zero records.
unfoldable pub records_after : ℕ → Effect → List Record → List Record
records_after size Keep list = list
records_after size (Push new) list = new ∷ take (size - 1) list
records_after size Clear list = replicate size zero_record
records_after size (ResetTo n) list = replicate n zero_record

-- The records that a step leaves, as reads show them.
abbrev pub records_left : Result Answer State → List Record
records_left after = records after.state.size after.state.start after.room

-- The operation is an event: a taken branch, an exception, an exception return, a halt or a resume. It leaves the side where the
-- processor is: its level, or Debug state while it is halted.
pub data IsEvent : Operation → Type 0 where
  branch : {kind m source target : ℕ} → IsEvent (Branch kind m source target)
  exception : {kind level source target : ℕ} → IsEvent (Exception kind level source target)
  return : {level m source target : ℕ} → IsEvent (Return level m source target)
  halt : {source : ℕ} → IsEvent (Halt source)
  resume : {target level : ℕ} → IsEvent (Resume target level)

-- The side that it enters.
abbrev pub entered : State → {o : Operation} → IsEvent o → ℕ
entered s branch = side s
entered s (exception {level = level}) = level
entered s (return {level = level}) = level
entered s halt = debug_state
entered s (resume {level = level}) = level

-- The event itself: its type and flag, its two sides and its two addresses. An exception has no flag, and a return has type 7; a
-- halt, of type 0x21, and a resume, of type 0x39, have no flag, and no address in Debug state.
abbrev pub event_of : State → {o : Operation} → IsEvent o → Event
event_of s (branch {kind = kind} {m = m} {source = source} {target = target}) = event_from s kind m (side s) source target
event_of s (exception {kind = kind} {level = level} {source = source} {target = target}) = event_from s kind 0 level source target
event_of s (return {level = level} {m = m} {source = source} {target = target}) = event_from s 7 m level source target
event_of s (halt {source = source}) = event_from s 0x21 0 debug_state source 0
event_of s (resume {target = target} {level = level}) = event_from s 0x39 0 level 0 target

-- The operation is an access: a read, a write, or BRB IALL.
pub data IsAccess : Operation → Type 0 where
  read : {r : ℕ} → IsAccess (Read r)
  write : {r value : ℕ} → IsAccess (Write r value)
  iall : IsAccess Iall
