-- What a record says, field by field, and Arm's rules in Arm's words beside the definitions.
use Prim.Native.Nat.{ℕ, ◌^◌, ◌%◌}
use native.Mathlib.Omega.{arith}
use mathlib.Core.Path.{◌≡◌, refl, ◌∙◌}
use mathlib.Core.Bool.{Bool, true, false, cond, ◌&&◌, ◌||◌, not}
use lib.Dec.{eqb}
use Rattle.bits.specs.Bits.{is_set, part}
use Rattle.count.specs.Count.{encoded}
use Rattle.state.specs.declared.State.{State}
use Rattle.state.specs.declared.Running.{Running}
use Rattle.state.specs.Named.{prediction_shown, PAUSED}
use Rattle.region.specs.Region.{prohibited}
use Rattle.room.specs.declared.Record.{Record}
use Rattle.event.specs.declared.Event.{Event}
use Rattle.event.specs.Event.{valid, count_unknown, MPRED, packed, BRBINF, record_of, becomes_record}

-- ---- BRBINF

-- What its fields read as; every other bit is 0.
pub record Fields (ccu cc kind level mpred valid inf : ℕ) : Type 0 where
  pub CCU : part 46 46 inf ≡ ccu % 2
  pub CC : part 45 32 inf ≡ cc % 2 ^ 14
  pub TYPE : part 13 8 inf ≡ kind % 2 ^ 6
  pub EL : part 7 6 inf ≡ level % 2 ^ 2
  pub MISPREDICTED : part 5 5 inf ≡ mpred % 2
  pub VALID : part 1 0 inf ≡ valid % 2 ^ 2
  pub above : part 63 47 inf ≡ 0
  pub between : part 31 14 inf ≡ 0
  pub below : part 4 2 inf ≡ 0

pub fields : (ccu cc kind level mpred valid : ℕ) → Fields ccu cc kind level mpred valid (packed ccu cc kind level mpred valid)
fields ccu cc kind level mpred valid =
    record {
      CCU = omega arith;
      CC = omega arith;
      TYPE = omega arith;
      EL = omega arith;
      MISPREDICTED = omega arith;
      VALID = omega arith;
      above = omega arith;
      between = omega arith;
      below = omega arith;
    }

-- BRBINF of an event: an unknown count is CCU 1 and CC 0, a known one the encoding of the running count.
pub record_fields : (s : State) (r : Running) (e : Event)
    → Fields (cond (count_unknown s r) 1 0) (cond (count_unknown s r) 0 (encoded r.count)) e.kind
    (cond (prohibited s e.entered) 0 e.entered)
    (MPRED s e)
    (valid s e)
    (record_of s r e).inf
unfolding record_of BRBINF
record_fields s r e = fields _ _ _ _ _ _

-- ---- what a prohibited side hides, and what a side that is not prohibited shows

never_shown : {A : Type 0} (t : Bool) (new other : A) → cond (t && false) new other ≡ other
never_shown true new other = refl
never_shown false new other = refl

-- R_YGGSC: nothing of a prohibited side is captured, be it address, prediction or level.
pub record Hidden (s : State) (left entered : ℕ) (new : Record) : Type 0 where
  pub source : prohibited s left ≡ true → new.source ≡ 0
  pub prediction : prohibited s left ≡ true → part 5 5 new.inf ≡ 0
  pub target : prohibited s entered ≡ true → new.target ≡ 0
  pub level : prohibited s entered ≡ true → part 7 6 new.inf ≡ 0

pub record_hidden : (s : State) (r : Running) (e : Event) → Hidden s e.left e.entered (record_of s r e)
unfolding record_of MPRED
record_hidden s r e =
    record {
      source = λ h. rw h;
      prediction = λ h. (record_fields s r e).MISPREDICTED ∙ rw h (rw (never_shown (prediction_shown s) e.mispredicted 0));
      target = λ h. rw h;
      level = λ h. (record_fields s r e).EL ∙ rw h;
    }

-- The event's own numbers elsewhere; MPRED only where it is shown (R_XHWRB).
pub record Captured (s : State) (e : Event) (new : Record) : Type 0 where
  pub source : prohibited s e.left ≡ false → new.source ≡ e.source
  pub prediction : prohibited s e.left ≡ false → part 5 5 new.inf ≡ cond (prediction_shown s) e.mispredicted 0 % 2
  pub target : prohibited s e.entered ≡ false → new.target ≡ e.target
  pub level : prohibited s e.entered ≡ false → part 7 6 new.inf ≡ e.entered % 4
  pub kind : part 13 8 new.inf ≡ e.kind % 64

and_true : (t : Bool) → t && true ≡ t
and_true true = refl
and_true false = refl

pub record_captured : (s : State) (r : Running) (e : Event) → Captured s e (record_of s r e)
unfolding record_of MPRED
record_captured s r e =
    record {
      source = λ h. rw h;
      prediction = λ h. (record_fields s r e).MISPREDICTED ∙ rw (h, and_true (prediction_shown s));
      target = λ h. rw h;
      level = λ h. (record_fields s r e).EL ∙ rw h;
      kind = (record_fields s r e).TYPE;
    }

-- ---- VALID, and whether there is a record

-- R_YBJDJ, R_ZTGMW: from a prohibited region half-target, 0b01; from one that is not to one that is half-source, 0b10; else full, 0b11.
pub valid_as_arm_says : (s : State) (e : Event)
    → (prohibited s e.left ≡ true → prohibited s e.entered ≡ false → valid s e ≡ 0b01)
    × (prohibited s e.left ≡ false → prohibited s e.entered ≡ true → valid s e ≡ 0b10)
    × (prohibited s e.left ≡ false → prohibited s e.entered ≡ false → valid s e ≡ 0b11)
unfolding valid
valid_as_arm_says s e = (λ a b. rw (a, b), λ a b. rw (a, b), λ a b. rw (a, b))

-- R_YSKQK, R_LMXHS and document 01: a wanted event becomes a record unless recording is paused, or both its sides are prohibited.
pub becomes_exactly : (s : State) (wanted : Bool) (e : Event)
    → becomes_record s wanted e ≡ (wanted && not (PAUSED s) && not (prohibited s e.left && prohibited s e.entered))
unfolding becomes_record valid
becomes_exactly s wanted e = go wanted (PAUSED s) (prohibited s e.left) (prohibited s e.entered)
  where
    go : (w p a b : Bool) → (w && not p && not (eqb (cond a (cond b 0 1) (cond b 2 3)) 0)) ≡ (w && not p && not (a && b))
    go w p true true = refl
    go w p true false = refl
    go w p false true = refl
    go w p false false = refl

-- ---- when the count is unknown

-- R_MJDLC: BRBCR_EL2.CC is 0, or BRBCR_EL1.CC is 0, or this is the first record after one of its occasions, which the flag says.
pub unknown_as_arm_says : (s : State) (r : Running)
    → count_unknown s r ≡ (not (is_set 3 s.brbcr2) || not (is_set 3 s.brbcr1) || eqb r.unknown 1)
unfolding count_unknown
unknown_as_arm_says s r = go (is_set 3 s.brbcr1) (is_set 3 s.brbcr2) (eqb r.unknown 1)
  where
    go : (one two flag : Bool) → (flag || not (one && two)) ≡ (not two || not one || flag)
    go true true true = refl
    go true true false = refl
    go true false true = refl
    go true false false = refl
    go false true true = refl
    go false true false = refl
    go false false true = refl
    go false false false = refl
