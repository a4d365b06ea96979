-- What an accepted operation does, one clause an operation: document 01, "Operations", "Which events become records" and
-- "Access outcomes"; document 02, Five and Six; docs/MANUAL.md, "Operations".
use Rattle.std.specs.Prelude.{true, cond, List}
use Rattle.answer.specs.declared.Answer.{Answer}
use Rattle.answer.specs.declared.Answer.TheVariants.{Done, Value}
use Rattle.answer.specs.Answer.{is_done}
use Rattle.state.specs.declared.State.{State}
use Rattle.state.specs.declared.Running.{Running}
use Rattle.state.specs.Named.{debug_state, side, after_reset, at_level, in_debug_state, resumed_at, with_platform}
use Rattle.room.specs.declared.Record.{Record}
use Rattle.room.specs.declared.Effect.{Effect}
use Rattle.room.specs.declared.Effect.TheVariants.{Keep, Clear, ResetTo}
use Rattle.filter.specs.Filter.{exception_return, debug_halt, debug_exit, passes_filter}
use Rattle.event.specs.Event.{controlled, event_from, event_effect}
use Rattle.freeze.specs.Freeze.{overflowed}
use Rattle.access.specs.Access.{read_outcome, write_outcome, iall_outcome, meant, register_value, register_written}
use Rattle.operation.specs.declared.Operation.{Operation}
use Rattle.operation.specs.declared.Operation.TheVariants.{Reset, Branch, Exception, Return, Platform, Read, Write, Iall, Halt, Resume, Freeze, Unknown}

-- What a clause says: the state once the operation has set what it sets, which is not the running count, but for a reset; what
-- it asks of the records, by the running count with the operation's cycles in it; and what it answers, by the records.
pub record Clause : Type 0 where
  pub sets : State
  pub asks : Running → Effect
  pub answers : List Record → Answer

-- A clause of its three parts.
abbrev pub clause : State → (Running → Effect) → (List Record → Answer) → Clause
clause sets asks answers = record { sets = sets; asks = asks; answers = answers }

-- No record is asked for, and none is touched.
abbrev pub nothing : Running → Effect
nothing running = Keep

-- The answer is the same, whatever the records are.
abbrev pub always : Answer → List Record → Answer
always answer list = answer

-- What each operation does, by the state before it.
--   A reset sets everything and clears the records.
--   A branch stays where it is and goes by the filter.
--   An exception goes to its level, by bit 23 (EXCEPTION) of that level; its mispredicted flag is 0 (R_DHNPJ).
--   A return, which has a type of its own, goes to its level, by bit 22 (ERTN) of the level that it leaves.
--   A platform word sets P.
--   A read, a write and BRB IALL answer how the access ended. A performed read answers what it shows, a performed write sets its
--   register, a performed BRB IALL clears the records.
--   A halt goes from its level to Debug state (R_LLCTG), a resume from Debug state to its level (R_RBCFP): neither the filter nor
--   a control is asked, and the side in Debug state has no address.
--   A freeze sets PAUSED and BRBTS_EL1 where its group's overflow freezes, else nothing (document 02, Six).
--   (Refusal 2 keeps an unknown code away.)
abbrev pub does : State → Operation → Clause
does s (Reset size v1p1) = clause (after_reset size v1p1) (λ running. ResetTo size) (always Done)
does s (Branch kind mispredicted source target) =
    clause s (event_effect s (passes_filter s.brbfcr (record { code = kind })) (event_from s kind mispredicted (side s) source target)) (always Done)
does s (Exception kind level source target) =
    clause (at_level level s) (event_effect s (controlled s 23 level) (event_from s kind 0 level source target)) (always Done)
does s (Return level mispredicted source target) =
    clause (at_level level s) (event_effect s (controlled s 22 s.level) (event_from s exception_return mispredicted level source target)) (always Done)
does s (Platform p) = clause (with_platform p s) nothing (always Done)
does s (Read r) =
    clause s nothing (λ list. cond (is_done (read_outcome s r)) (Value (register_value s list (meant s r))) (read_outcome s r))
does s (Write r value) =
    clause (cond (is_done (write_outcome s r)) (register_written s (meant s r) value) s) nothing (always (write_outcome s r))
does s Iall = clause s (λ running. cond (is_done (iall_outcome s)) Clear Keep) (always (iall_outcome s))
does s (Halt source) = clause (in_debug_state s) (event_effect s true (event_from s debug_halt 0 debug_state source 0)) (always Done)
does s (Resume target level) = clause (resumed_at level s) (event_effect s true (event_from s debug_exit 0 level 0 target)) (always Done)
does s (Freeze group physical virtual_offset guest_offset) =
    clause (overflowed s group physical virtual_offset guest_offset) nothing (always Done)
does s Unknown = clause s nothing (always Done)

-- The state once the operation has set what it sets.
unfoldable pub changed : State → Operation → State
changed s o = (does s o).sets
