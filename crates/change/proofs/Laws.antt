-- What holds of every effect but a reset's holds of the effect of every operation but a reset; and what a record leaves of the count.
use Prim.Native.Nat.{ℕ, ◌+◌, min}
use native.Mathlib.Omega.{arith}
use mathlib.Core.Path.{◌≡◌, ap}
use mathlib.Core.Bool.{Bool, true, false, cond}
use lib.Dec.{eqb}
use Rattle.bits.proofs.Cases.{never}
use Rattle.answer.specs.Answer.{is_done}
use Rattle.state.specs.declared.State.{State}
use Rattle.state.specs.declared.Running.{Running}
use Rattle.state.specs.Sound.{cap}
use Rattle.running.specs.Ran.{ran}
use Rattle.room.specs.declared.Record.{Record}
use Rattle.room.specs.declared.Effect.{Effect}
use Rattle.room.specs.declared.Effect.TheVariants.{Keep, Push, Clear}
use Rattle.event.specs.declared.Event.{Event}
use Rattle.event.specs.Event.{record_of, becomes_record, event_effect}
use Rattle.access.specs.Access.{iall_outcome}
use Rattle.operation.specs.declared.Operation.{Operation}
use Rattle.operation.specs.declared.Operation.TheVariants.{Reset, Branch, Exception, Return, Platform, Read, Write, Iall, Halt, Resume, Freeze, Unknown}
use Rattle.operation.specs.Operation.{code_of}
use Rattle.change.specs.Change.{effect_of, running_after}

module _ (P : Effect → Type 0) (s : State) (r : Running) (keep : P Keep) (clear : P Clear) (push : (e : Event) → P (Push (record_of s r e))) where
  one_of : (t : Bool) {x y : Effect} → P x → P y → P (cond t x y)
  one_of true a b = a
  one_of false a b = b

  of_event : (wanted : Bool) (e : Event) → P (event_effect s wanted e r)
  of_event wanted e = one_of (becomes_record s wanted e) (push e) keep

  pub of_effect : (o : Operation) → eqb (code_of o) 0 ≡ false → P (effect_of s o r)
  unfolding effect_of
  of_effect (Reset size v1p1) h = never (cc)
  of_effect (Branch kind m source target) h = of_event _ _
  of_effect (Exception kind level source target) h = of_event _ _
  of_effect (Return level m source target) h = of_event _ _
  of_effect (Platform p) h = keep
  of_effect (Read k) h = keep
  of_effect (Write k value) h = keep
  of_effect Iall h = one_of (is_done (iall_outcome s)) clear keep
  of_effect (Halt source) h = of_event _ _
  of_effect (Resume target level) h = of_event _ _
  of_effect (Freeze group physical virtual_offset guest_offset) h = keep
  of_effect Unknown h = keep

-- R_KVRBB: once a record has taken the count, it is known again and counts the cycles since then.
pub since_record : (new : Record) (r : Running) (cycles : ℕ) → ran (running_after (Push new) r) false cycles ≡ record { count = min cycles cap; unknown = 0 }
since_record new r cycles =
    let anew : 0 + cycles ≡ cycles = omega arith in ap {B = Running} (λ (n : ℕ). record { count = min n cap; unknown = 0 }) anew
