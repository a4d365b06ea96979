-- A step is an accepted operation or a refusal, by the refusal's number; and what a write left is what a read shows.
use Prim.Native.Nat.{ℕ, ◌≤◌}
use native.Mathlib.Omega.{arith}
use mathlib.Core.Path.{◌≡◌, refl, ap, ◌∙◌}
use mathlib.Core.Bool.{Bool, true, false, cond, ◌&&◌}
use mathlib.Core.List.{List}
use lib.Dec.{eqb}
use borrow.Author.Tests.{eq-eqb, ne_eqb}
use lib.ListN.{length}
use Rattle.answer.specs.declared.Answer.TheVariants.{Value}
use Rattle.answer.specs.Answer.{is_done}
use Rattle.state.specs.declared.State.{State}
use Rattle.state.specs.declared.Running.{Running}
use Rattle.state.specs.Named.{E2H, with_running, with_start}
use Rattle.room.specs.declared.Record.{Record}
use Rattle.access.specs.Access.{read_outcome, write_outcome, meant, shown_record, shown_number, register_value, register_written}
use Rattle.access.proofs.Laws.{kept_of, written_reads}
use Rattle.operation.specs.declared.Operation.{Operation}
use Rattle.operation.specs.declared.Operation.TheVariants.{Read, Write}
use Rattle.operation.specs.Refusal.{refusal_of}
use Rattle.operation.specs.Clause.{changed}
use Rattle.change.specs.Change.{effect_of, answer_of}
use Rattle.recorder.specs.Step.{accepted, refused, step_of}

module _ (s : State) (o : Operation) (cycles : ℕ) (room : List ℕ) where
  pub accepted_step : refusal_of s o (length room) ≡ 0 → step_of s o cycles room ≡ accepted s o cycles room
  unfolding step_of
  accepted_step h = rw h

  pub refused_step : (refusal_of s o (length room) ≡ 0 → ⊥)
      → step_of s o cycles room ≡ refused (refusal_of s o (length room)) s room
  unfolding step_of
  refused_step h = rw (ne_eqb (refusal_of s o (length room)) 0 h)

-- ---- a write, and then a read

-- The running count and the start are no registers.
not_counted : (start : ℕ) (r : Running) (s : State) (list : List Record) (q : ℕ)
    → register_value (with_start start (with_running r s)) list q ≡ register_value s list q
unfolding register_value shown_number shown_record
not_counted start r s list q = refl

-- What is meant is a control register where one is named, and a write does not change what is meant.
meant_control : (s : State) (r : ℕ) → 1 ≤ r → r ≤ 3 → (1 ≤ meant s r) × (meant s r ≤ 3)
meant_control s r low high = go (eqb s.level 2 && E2H s && eqb r 1)
  where
    go : (t : Bool) → (1 ≤ cond t 2 r) × (cond t 2 r ≤ 3)
    go true = (omega arith, omega arith)
    go false = (low, high)

same : (n : ℕ) → eqb n n ≡ true
same n = eq-eqb n n refl

reads_back : (s : State) (start : ℕ) (count : Running) (list : List Record) (r value : ℕ) → 1 ≤ r → r ≤ 3
    → register_value (with_start start (with_running count (register_written s (meant s r) value))) list
    (meant (with_start start (with_running count (register_written s (meant s r) value))) r)
    ≡ kept_of (meant s r) value
unfolding register_written
reads_back s start count list r value low high =
    let (least, most) = meant_control s r low high in
    not_counted start count (register_written s (meant s r) value) list (meant s r)
    ∙ written_reads s list (meant s r) (meant s r) value least most least most
    ∙ rw (same (meant s r))

-- A control register that was written and is then read answers exactly the bits that the register keeps, where both accesses are performed.
pub write_then_read : (s : State) (r value cycles : ℕ) (room : List ℕ) → refusal_of s (Write r value) (length room) ≡ 0 → 1 ≤ r → r ≤ 3
    → is_done (write_outcome s r) ≡ true
    → is_done (read_outcome (step_of s (Write r value) cycles room).state r) ≡ true
    → answer_of (step_of s (Write r value) cycles room).state (Read r) (step_of s (Write r value) cycles room).room ≡ Value (kept_of (meant s r) value)
unfolding accepted answer_of changed effect_of
write_then_read s r value cycles room h low high written read =
    rw (read, accepted_step s (Write r value) cycles room h, written) (ap Value (reads_back s _ _ _ r value low high))
