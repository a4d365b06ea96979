-- Which events become records: PAUSED, the filter, the control of exceptions and returns, and the two sides decide it, in Arm's words.
use Prim.Native.Nat.{ℕ, zero, suc, ◌≤◌}
use native.Mathlib.Omega.{arith}
use mathlib.Core.Path.{◌≡◌, refl, sym}
use mathlib.Core.Bool.{Bool, true, false, cond, ◌&&◌, ◌||◌, not}
use mathlib.Core.Logic.{◌↔◌}
use lib.Dec.{eqb}
use borrow.Author.Tests.{eq-eqb, eqb-true, leb-true, ltb-false}
use Rattle.bits.specs.Bits.{is_set}
use Rattle.bits.proofs.Cases.{never}
use Rattle.bits.proofs.Each.{each}
use Rattle.answer.specs.Answer.{is_done}
use Rattle.state.specs.declared.State.{State}
use Rattle.state.specs.declared.Running.{Running}
use Rattle.state.specs.Named.{PAUSED, is_halted, side}
use Rattle.state.specs.Sound.{sound}
use Rattle.region.specs.Region.{prohibited}
use Rattle.region.proofs.Laws.{in_debug_state_lem}
use Rattle.room.specs.declared.Record.{Record}
use Rattle.room.specs.declared.Effect.{Effect}
use Rattle.room.specs.declared.Effect.TheVariants.{Keep, Push, Clear}
use Rattle.filter.specs.Filter.{passes_filter}
use Rattle.event.specs.declared.Event.{Event}
use Rattle.event.specs.Event.{controlled, record_of, becomes_record, event_effect}
use Rattle.event.proofs.Laws.{becomes_exactly}
use Rattle.access.specs.Access.{iall_outcome}
use Rattle.operation.specs.declared.Operation.{Operation}
use Rattle.operation.specs.declared.Operation.TheVariants.{Reset, Branch, Exception, Return, Platform, Read, Write, Iall, Halt, Resume, Freeze, Unknown}
use Rattle.operation.specs.Refusal.{outside_list, wrong_halted, wrong_level}
use Rattle.operation.proofs.Laws.{Accepts}
use Rattle.change.specs.Change.{effect_of}

-- R_KRJQC and R_ZSHDL: at EL1 by a bit of BRBCR_EL1, at EL2 by that bit of BRBCR_EL2, at EL3 if FEAT_BRBEv1p1 is implemented and
-- self-hosted EL3 branch recording is enabled.
pub data Control (k : ℕ) (s : State) : ℕ → Type 0 where
  at_el1 : is_set k s.brbcr1 ≡ true → Control k s 1
  at_el2 : is_set k s.brbcr2 ≡ true → Control k s 2
  at_el3 : s.v1p1 ≡ 1 → is_set 6 s.p ≡ true → Control k s 3

-- The event becomes a record. A branch: from a level that is not prohibited, by the filter. An exception: unless both sides are prohibited,
-- by EXCEPTION (bit 23) of the target level. A return: the same, by ERTN (bit 22) of the level that it is executed at. Entry to Debug state: from
-- a level that is not prohibited (R_LLCTG). Exit from it: to a level that is not prohibited (R_RBCFP). None while PAUSED.
pub data Recorded (s : State) : Operation → Type 0 where
  branch : {kind m source target : ℕ} → PAUSED s ≡ false → prohibited s (side s) ≡ false → passes_filter s.brbfcr (record { code = kind }) ≡ true
      → Recorded s (Branch kind m source target)
  exception : {kind level source target : ℕ} → PAUSED s ≡ false → prohibited s (side s) && prohibited s level ≡ false → Control 23 s level
      → Recorded s (Exception kind level source target)
  return : {level m source target : ℕ} → PAUSED s ≡ false → prohibited s (side s) && prohibited s level ≡ false → Control 22 s s.level
      → Recorded s (Return level m source target)
  halt : {source : ℕ} → PAUSED s ≡ false → prohibited s (side s) ≡ false → Recorded s (Halt source)
  resume : {target level : ℕ} → PAUSED s ≡ false → prohibited s level ≡ false → Recorded s (Resume target level)

-- An effect that puts a record in front.
pub data Pushes : Effect → Type 0 where
  pushes : {new : Record} → Pushes (Push new)

-- ---- the control

by_control : {k level : ℕ} (s : State) → Control k s level → controlled s k level ≡ true
unfolding controlled
by_control s (at_el1 h) = h
by_control s (at_el2 h) = h
by_control s (at_el3 v b) = rw (eq-eqb s.v1p1 1 v, b)

its_control : (k : ℕ) (s : State) (level : ℕ) → 1 ≤ level → level ≤ 3 → controlled s k level ≡ true → Control k s level
unfolding controlled
its_control k s zero low high h = absurd (omega arith)
its_control k s (suc zero) low high h = at_el1 h
its_control k s (suc (suc zero)) low high h = at_el2 h
its_control k s (suc (suc (suc zero))) low high h = at_el3 (eqb-true s.v1p1 1 (search each)) (search each)
its_control k s (suc (suc (suc (suc level)))) low high h = absurd (omega arith)

-- ---- the event

record Becomes (s : State) (wanted : Bool) (left entered : ℕ) : Type 0 where
  is_wanted : wanted ≡ true
  not_paused : PAUSED s ≡ false
  not_both : prohibited s left && prohibited s entered ≡ false

module _ (s : State) (r : Running) (wanted : Bool) (e : Event) where
  becomes : Pushes (event_effect s wanted e r) → Becomes s wanted e.left e.entered
  becomes p = go (becomes_record s wanted e) (becomes_exactly s wanted e) p
    where
      go : (t : Bool) → t ≡ (wanted && not (PAUSED s) && not (prohibited s e.left && prohibited s e.entered))
          → Pushes (cond t (Push (record_of s r e)) Keep)
          → Becomes s wanted e.left e.entered
      go true h q = let all = sym h in record { is_wanted = search each; not_paused = search each; not_both = search each }
      go false h q = elim q [ ]

  pushed : Becomes s wanted e.left e.entered → Pushes (event_effect s wanted e r)
  pushed b = rw (becomes_exactly s wanted e, b.is_wanted, b.not_paused, b.not_both) pushes

not_zero : (n : ℕ) → eqb n 0 ≡ false → 1 ≤ n
not_zero zero h = never (cc)
not_zero (suc n) h = omega arith

and_false : (t : Bool) → t && false ≡ false
and_false true = refl
and_false false = refl

twice : (t : Bool) → t && t ≡ t
twice true = refl
twice false = refl

-- ---- which operations

its_record : {e : Effect} → Pushes e → (new : Record) × (e ≡ Push new)
its_record (pushes {new = new}) = (new, refl)

no_record : {o : Operation} {s : State} (t : Bool) → Pushes (cond t Clear Keep) → Recorded s o
no_record true p = never (cc (its_record p).1)
no_record false p = never (cc (its_record p).1)

-- The levels of an accepted exception and of an accepted return.
entered_levels : (s : State) (kind level source target : ℕ) {room : ℕ} → Accepts s (Exception kind level source target) room → (1 ≤ level) × (level ≤ 3)
unfolding outside_list wrong_level
entered_levels s kind level source target a = (not_zero level (search each), ltb-false 3 level (search each))

left_levels : (s : State) (level m source target : ℕ) {room : ℕ} → Accepts s (Return level m source target) room → (1 ≤ s.level) × (s.level ≤ 3)
unfolding wrong_level sound
left_levels s level m source target a =
    let is = a.is_sound in
    (not_zero s.level (search each), leb-true s.level 3 (search each depth 12))

-- Where one side is prohibited and not both are, the other is not.
left_open : (a : Bool) {b : Bool} → b ≡ true → a && b ≡ false → a ≡ false
left_open true h k = never (cc)
left_open false h k = refl

right_open : {a b : Bool} → a ≡ true → a && b ≡ false → b ≡ false
right_open h k = rw h at k

-- An accepted resume comes from Debug state.
from_debug_state : (s : State) (target level : ℕ) {room : ℕ} → Accepts s (Resume target level) room → prohibited s (side s) ≡ true
unfolding wrong_halted
from_debug_state s target level a = rw (halted (is_halted s) a.halted_or_not) (in_debug_state_lem s)
  where
    halted : (t : Bool) → t && false || not t && true ≡ false → t ≡ true
    halted true h = refl
    halted false h = never (cc)

made : (s : State) (o : Operation) (r : Running) {room : ℕ} → Accepts s o room → Pushes (effect_of s o r) → Recorded s o
unfolding effect_of
made s (Reset size v1p1) r a p = never (cc (its_record p).1)
made s (Branch kind m source target) r a p =
    let b = becomes s r _ _ p in branch b.not_paused (rw twice at b.not_both) b.is_wanted
made s (Exception kind level source target) r a p =
    let b = becomes s r _ _ p in
    let (low, high) = entered_levels s kind level source target a in
    exception b.not_paused b.not_both (its_control 23 s level low high b.is_wanted)
made s (Return level m source target) r a p =
    let b = becomes s r _ _ p in
    let (low, high) = left_levels s level m source target a in
    return b.not_paused b.not_both (its_control 22 s s.level low high b.is_wanted)
made s (Platform p) r a q = never (cc (its_record q).1)
made s (Read register) r a p = never (cc (its_record p).1)
made s (Write register value) r a p = never (cc (its_record p).1)
made s Iall r a p = no_record (is_done (iall_outcome s)) p
made s (Halt source) r a p =
    let b = becomes s r _ _ p in halt b.not_paused (left_open _ (in_debug_state_lem s) b.not_both)
made s (Resume target level) r a p =
    let b = becomes s r _ _ p in resume b.not_paused (right_open (from_debug_state s target level a) b.not_both)
made s (Freeze group physical virtual_offset guest_offset) r a p = never (cc (its_record p).1)
made s Unknown r a p = never (cc (its_record p).1)

making : (s : State) {o : Operation} (r : Running) → Recorded s o → Pushes (effect_of s o r)
unfolding effect_of
making s r (branch paused shown passes_filter) = pushed s r _ _ (record { is_wanted = passes_filter; not_paused = paused; not_both = rw twice shown })
making s r (exception paused sides control) = pushed s r _ _ (record { is_wanted = by_control s control; not_paused = paused; not_both = sides })
making s r (return paused sides control) = pushed s r _ _ (record { is_wanted = by_control s control; not_paused = paused; not_both = sides })
making s r (halt paused shown) = pushed s r _ _ (record { is_wanted = refl; not_paused = paused; not_both = rw shown })
making s r (resume paused shown) = pushed s r _ _ (record { is_wanted = refl; not_paused = paused; not_both = rw (shown, and_false) })

-- An accepted operation makes a record exactly if it is one of those events.
pub recorded_exactly : (s : State) (o : Operation) (r : Running) {room : ℕ} → Accepts s o room → Pushes (effect_of s o r) ↔ Recorded s o
recorded_exactly s o r a = (made s o r a, making s r)
