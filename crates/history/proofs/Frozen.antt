-- Request Six over sequences: after a freeze no event makes a record until PAUSED is cleared.
use Prim.Native.Nat.{ℕ, ◌+◌}
use native.Mathlib.Omega.{arith}
use mathlib.Core.Path.{◌≡◌, refl}
use mathlib.Core.Bool.{Bool, true, false, cond, ◌&&◌, not}
use mathlib.Core.List.{List, [], ◌∷◌}
use lib.ListN.{length}
use Rattle.bits.proofs.Cases.{never}
use Rattle.bits.proofs.WithBit.{is_set_lem}
use Rattle.state.specs.declared.State.{State}
use Rattle.state.specs.declared.Running.{Running}
use Rattle.state.specs.Named.{PAUSED}
use Rattle.room.specs.declared.Effect.{Effect}
use Rattle.room.specs.declared.Effect.TheVariants.{Keep, Push, Clear, ResetTo}
use Rattle.freeze.specs.Freeze.{freezes, overflowed}
use Rattle.operation.specs.declared.Operation.{Operation}
use Rattle.operation.specs.declared.Operation.TheVariants.{Freeze}
use Rattle.operation.specs.Clause.{changed}
use Rattle.operation.proofs.Laws.{Accepts, accepts_if}
use Rattle.change.specs.Change.{cleared_paused, effect_of}
use Rattle.change.proofs.Recorded.{Recorded, branch, exception, return, halt, resume, pushes, recorded_exactly}
use Rattle.recorder.specs.Step.{accepted, step_of}
use Rattle.history.specs.History.{Timed, Machine, stepped, is_accepted, effect_in}
use Rattle.history.specs.Events.{is_push, makes_record, how_many}

-- The operation is accepted and clears PAUSED: a reset, or a performed write of BRBFCR_EL1 with 0 in bit 7 (`demands.proofs.Freeze.which_clears`).
abbrev pub clears : Machine → Timed → Bool
clears m t = is_accepted m t && cleared_paused m.state t.operation

-- ---- while PAUSED is 1

-- Whatever becomes a record does so with PAUSED 0.
not_paused : {s : State} {o : Operation} → Recorded s o → PAUSED s ≡ false
not_paused (branch p shown wanted) = p
not_paused (exception p sides control) = p
not_paused (return p sides control) = p
not_paused (halt p shown) = p
not_paused (resume p shown) = p

pushes_none : (s : State) (o : Operation) (r : Running) {room : ℕ} → Accepts s o room → PAUSED s ≡ true → is_push (effect_of s o r) ≡ false
pushes_none s o r a paused = go (effect_of s o r) refl
  where
    go : (e : Effect) → effect_of s o r ≡ e → is_push e ≡ false
    go Keep same = refl
    go (Push new) same = never (cc (not_paused ((recorded_exactly s o r a).0 (rw same pushes))))
    go Clear same = refl
    go (ResetTo size) same = refl

makes_none : (m : Machine) (t : Timed) → PAUSED m.state ≡ true → makes_record m t ≡ false
makes_none m t paused = go (is_accepted m t) refl
  where
    go : (b : Bool) → is_accepted m t ≡ b → b && is_push (effect_in m t) ≡ false
    go true e = pushes_none m.state t.operation _ (accepts_if m.state t.operation (length m.room) e) paused
    go false e = refl

-- It stays 1 unless it is cleared.
still_paused : (m : Machine) (t : Timed) → PAUSED m.state ≡ true → clears m t ≡ false → PAUSED (stepped m t).state ≡ true
unfolding stepped step_of accepted
still_paused m t paused kept = go (is_accepted m t) refl
  where
    still : (before after : Bool) → before ≡ true → before && not after ≡ false → after ≡ true
    still true true h k = refl
    still true false h k = never (cc)
    still false after h k = never (cc)

    go : (b : Bool) → is_accepted m t ≡ b → PAUSED (stepped m t).state ≡ true
    go true e = rw e (still (PAUSED m.state) (PAUSED (changed m.state t.operation)) paused (rw e at kept))
    go false e = rw e paused

-- ---- frozen_until

none_of : (b : Bool) (others : ℕ) → cond b 1 0 + others ≡ 0 → (b ≡ false) × (others ≡ 0)
none_of true others h = absurd (omega arith)
none_of false others h = (refl, omega arith)

-- While PAUSED is 1, no operation makes a record until one clears it.
pub paused_until : (m : Machine) (list : List Timed) → PAUSED m.state ≡ true → how_many clears m list ≡ 0 → how_many makes_record m list ≡ 0
unfolding how_many
paused_until m [] paused none = refl
paused_until m (t ∷ list) paused none =
    let (kept, others) = none_of (clears m t) (how_many clears (stepped m t) list) none in
    rw (makes_none m t paused) (omega (arith, paused_until (stepped m t) list (still_paused m t paused kept) others))

-- A freeze: an accepted operation of code 10 whose overflow freezes.
pub record FreezesIn (m : Machine) (t : Timed) : Type 0 where
  pub group : ℕ
  pub physical : ℕ
  pub virtual_offset : ℕ
  pub guest_offset : ℕ
  pub is_freeze : t.operation ≡ Freeze group physical virtual_offset guest_offset
  pub is_accepted_lem : is_accepted m t ≡ true
  pub it_freezes : freezes m.state group ≡ true

pauses : (m : Machine) (t : Timed) → FreezesIn m t → PAUSED (stepped m t).state ≡ true
unfolding stepped step_of accepted changed overflowed
pauses m t f = rw (f.is_accepted_lem, f.is_freeze, f.it_freezes) (is_set_lem m.state.brbfcr)

-- After a freeze no event makes a record, until an operation clears PAUSED.
pub frozen_until : (m : Machine) (t : Timed) (list : List Timed) → FreezesIn m t → how_many clears (stepped m t) list ≡ 0
    → how_many makes_record (stepped m t) list ≡ 0
frozen_until m t list f none = paused_until (stepped m t) list (pauses m t f) none
