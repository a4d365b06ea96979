-- Request Six on one operation: what a freeze sets, that it sets nothing else, and which operations clear PAUSED again.
use Prim.Native.Nat.{ℕ, ◌/◌, ◌%◌}
use native.Mathlib.Omega.{arith}
use mathlib.Core.Path.{◌≡◌, refl, ap, ◌∙◌}
use mathlib.Core.Bool.{Bool, true, false, cond, ◌&&◌, not}
use mathlib.Core.List.{List}
use borrow.Author.Tests.{eqb-true}
use lib.Bits.{bit_and, and_shr, and_mod, and_mask}
use lib.Dec.{eqb}
use lib.ListN.{length}
use Rattle.bits.specs.Bits.{is_set}
use Rattle.bits.proofs.Cases.{never}
use Rattle.bits.proofs.WithBit.{is_set_lem, others_stay}
use Rattle.state.specs.declared.State.{State}
use Rattle.state.specs.Parts.{with_number}
use Rattle.state.specs.Named.{E2H, PAUSED, side, frozen_at, with_running, with_start}
use Rattle.state.specs.Sound.{filter_mask}
use Rattle.room.specs.Room.{room_after, start_after}
use Rattle.region.specs.Region.{prohibited}
use Rattle.running.specs.Ran.{ran}
use Rattle.freeze.specs.Freeze.{freezes, time, overflowed}
use Rattle.freeze.proofs.Laws.{never_cleared}
use Rattle.answer.specs.declared.Answer.TheVariants.{Done}
use Rattle.answer.specs.Answer.{is_done}
use Rattle.access.specs.Access.{write_outcome, meant, register_written}
use Rattle.operation.specs.declared.Operation.{Operation}
use Rattle.operation.specs.declared.Operation.TheVariants.{Reset, Branch, Exception, Return, Platform, Read, Write, Iall, Halt, Resume, Freeze, Unknown}
use Rattle.operation.specs.Refusal.{refusal_of}
use Rattle.operation.specs.Clause.{changed}
use Rattle.change.specs.Change.{cleared_paused, passed, effect_of, answer_of}
use Rattle.change.proofs.Occasions.{freeze_occasion}
use Rattle.recorder.specs.Result.{together}
use Rattle.recorder.specs.Step.{accepted, step_of}
use Rattle.recorder.proofs.Laws.{accepted_step}

-- ---- freeze_sets: what a freeze sets, and nothing else

-- An accepted freeze answers "done" and leaves the room as it was. The running count takes its cycles; the next count becomes unknown where
-- it began at a prohibited level or in Debug state, and on no other ground. Where the overflow freezes, the state is frozen at its time; else it is as it was.
pub freeze_sets : (s : State) (group physical virtual_offset guest_offset cycles : ℕ) (room : List ℕ)
    → refusal_of s (Freeze group physical virtual_offset guest_offset) (length room) ≡ 0
    → step_of s (Freeze group physical virtual_offset guest_offset) cycles room
    ≡ together Done
    (with_running (ran s.running (prohibited s (side s)) cycles) (cond (freezes s group) (frozen_at (time s physical virtual_offset guest_offset) s) s))
    room
unfolding accepted changed effect_of room_after start_after answer_of passed overflowed
freeze_sets s group physical virtual_offset guest_offset cycles room h =
    rw (accepted_step s (Freeze group physical virtual_offset guest_offset) cycles room h, freeze_occasion s group physical virtual_offset guest_offset)
    (ap (λ (after : State). together Done after room) (start_stays (freezes s group)))
  where
    after : Bool → State
    after freezes = with_running (ran s.running (prohibited s (side s)) cycles) (cond freezes (frozen_at (time s physical virtual_offset guest_offset) s) s)

    start_stays : (freezes : Bool) → with_start s.start (after freezes) ≡ after freezes
    start_stays true = refl
    start_stays false = refl

-- Frozen at a time: PAUSED is 1; BRBFCR_EL1's bits above it and below it are as they were; BRBTS_EL1 is the time; and with these two numbers put
-- back, the state is what it was.
pub record Frozen (s t : State) (time : ℕ) : Type 0 where
  pub paused : PAUSED t ≡ true
  pub other_bits : (t.brbfcr / 256 ≡ s.brbfcr / 256) × (t.brbfcr % 128 ≡ s.brbfcr % 128)
  pub its_time : t.brbts ≡ time
  pub nothing_else : with_number 6 s.brbfcr (with_number 10 s.brbts t) ≡ s

pub frozen : (s : State) (time : ℕ) → Frozen s (frozen_at time s) time
frozen s time = record { paused = is_set_lem s.brbfcr; other_bits = others_stay s.brbfcr; its_time = refl; nothing_else = refl }

-- ---- which_clears: PAUSED is cleared by a reset, or by a performed write of BRBFCR_EL1 with 0 in bit 7

pub data Clearing (s : State) : Operation → Type 0 where
  a_reset : {size v1p1 : ℕ} → Clearing s (Reset size v1p1)
  a_write : {register value : ℕ} → register ≡ 3 → is_done (write_outcome s register) ≡ true → is_set 7 value ≡ false → Clearing s (Write register value)

-- What is as it was is not cleared.
same_bit : {A : Type 0} (t : Bool) → t && not t ≡ true → A
same_bit true h = never (cc)
same_bit false h = never (cc)

-- The mask of BRBFCR_EL1 has bit 7.
kept_bit : (value : ℕ) → is_set 7 (bit_and value filter_mask) ≡ is_set 7 value
kept_bit value =
    let low : bit_and value filter_mask / 128 % 2 ≡ value / 128 % 2 =
    ap (λ (n : ℕ). n % 2) (and_shr value filter_mask 7)
    ∙ and_mod (value / 128) (filter_mask / 128) 1
    ∙ and_mask (value / 128 % 2) 1
    ∙ omega arith
    in
    ap (λ (n : ℕ). eqb n 1) low

-- Only the name of BRBFCR_EL1 means it.
means_itself : (s : State) (r : ℕ) → meant s r ≡ 3 → r ≡ 3
means_itself s r = go (eqb s.level 2 && E2H s && eqb r 1)
  where
    go : (t : Bool) → cond t 2 r ≡ 3 → r ≡ 3
    go true h = absurd (omega arith)
    go false h = h

cleared_by_write : (s : State) (r value : ℕ) (done : Bool) → is_done (write_outcome s r) ≡ done
    → PAUSED s && not (PAUSED (cond done (register_written s (meant s r) value) s)) ≡ true
    → Clearing s (Write r value)
unfolding register_written
cleared_by_write s r value false e h = same_bit (PAUSED s) h
cleared_by_write s r value true e h = go (eqb (meant s r) 3) refl h
  where
    go : (t : Bool) → eqb (meant s r) 3 ≡ t → PAUSED s && not (is_set 7 (cond t (bit_and value filter_mask) s.brbfcr)) ≡ true → Clearing s (Write r value)
    go true k g = a_write (means_itself s r (eqb-true (meant s r) 3 k)) e (off (PAUSED s) (is_set 7 value) (rw (kept_bit value) at g))
      where
        off : (a b : Bool) → a && not b ≡ true → b ≡ false
        off true true x = never (cc)
        off true false x = refl
        off false b x = never (cc)
    go false k g = same_bit (PAUSED s) g

pub which_clears : (s : State) (o : Operation) → cleared_paused s o ≡ true → Clearing s o
unfolding changed
which_clears s (Reset size v1p1) h = a_reset
which_clears s (Branch kind m source target) h = same_bit (PAUSED s) h
which_clears s (Exception kind level source target) h = same_bit (PAUSED s) h
which_clears s (Return level m source target) h = same_bit (PAUSED s) h
which_clears s (Platform p) h = same_bit (PAUSED s) h
which_clears s (Read r) h = same_bit (PAUSED s) h
which_clears s (Write r value) h = cleared_by_write s r value (is_done (write_outcome s r)) refl h
which_clears s Iall h = same_bit (PAUSED s) h
which_clears s (Halt source) h = same_bit (PAUSED s) h
which_clears s (Resume target level) h = same_bit (PAUSED s) h
which_clears s (Freeze group physical virtual_offset guest_offset) h = never (cc (never_cleared s group physical virtual_offset guest_offset))
which_clears s Unknown h = same_bit (PAUSED s) h
