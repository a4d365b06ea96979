-- Soundness is kept: from a sound state every operation leads to a sound state. So refusal 7 is never given in a run from one.
use Prim.Native.Nat.{ℕ, zero, suc, ◌+◌, ◌*◌, ◌/◌, ◌%◌, ◌≤◌, min}
use native.Mathlib.Nat.{le_refl}
use native.Mathlib.Omega.{arith}
use mathlib.Core.Path.{◌≡◌, refl, sym, ap, ◌∙◌}
use mathlib.Core.Bool.{Bool, true, false, cond, not}
use mathlib.Core.Logic.{◌≢◌, ◌⊎◌, inl, inr}
use mathlib.Core.List.{List, [], ◌∷◌}
use lib.Bits.{bit_and, and_step, and_shr, and_mod, and_high, and_block}
use lib.Dec.{eqb, leb, ltb}
use lib.ListN.{length}
use borrow.Author.Tests.{le-leb, le-ltb, lt-ltb, ltb-false, eq-eqb, eqb-true}
use Rattle.bits.specs.Bits.{with_bit, within, one_of}
use Rattle.bits.proofs.WithBit.{is_set_lem, others_stay}
use Rattle.state.specs.declared.State.{State}
use Rattle.state.specs.declared.Running.{Running}
use Rattle.state.specs.Named.{sizes, at_level, resumed_at, frozen_at, with_platform, with_running, with_start}
use Rattle.state.specs.Sound.{platform_mask, control_mask, filter_mask, cap, unavailable, is_place, sound}
use Rattle.state.proofs.Laws.{is_place_lem}
use Rattle.room.specs.declared.Effect.{Effect}
use Rattle.room.specs.declared.Effect.TheVariants.{Keep, Push, Clear, ResetTo}
use Rattle.answer.specs.Answer.{is_done}
use Rattle.freeze.specs.Freeze.{freezes, overflowed}
use Rattle.access.specs.Access.{write_outcome, meant, register_written}
use Rattle.operation.specs.declared.Operation.{Operation}
use Rattle.operation.specs.declared.Operation.TheVariants.{Reset, Branch, Exception, Return, Platform, Read, Write, Iall, Halt, Resume, Freeze, Unknown}
use Rattle.room.specs.Room.{needed, below, start_after}
use Rattle.room.proofs.Laws.{below_place}
use Rattle.operation.specs.Refusal.{unknown_code, not_reset, outside_list, wrong_halted, wrong_level, room_too_short, first_that, refusal_of}
use Rattle.bits.proofs.Cases.{either, never, or_true}
use Rattle.operation.specs.Clause.{changed}
use Rattle.operation.proofs.Size.{Resets, is_reset_lem, no_reset, resets, size_kept}
use Rattle.change.specs.Change.{occasion, passed, effect_of, running_after}
use Rattle.recorder.specs.Step.{accepted, step_of}
use Rattle.history.specs.History.{Timed, Machine, is_accepted, stepped, run, FromReset, reset, unset}
use Rattle.bits.proofs.Each.{each}
use Rattle.operation.proofs.Laws.{Accepts, accepts_if}
use Rattle.history.proofs.Allowed.{Allowed, keeps, pushes, clears, resets_to, allowed}

-- What a mask keeps, it keeps again.
kept_again : (n value mask : ℕ) → value ≤ n → bit_and (bit_and value mask) mask ≡ bit_and value mask
kept_again zero value mask h = let none : value ≡ 0 = omega arith in rw none
kept_again (suc n) value mask h =
    let low : bit_and value mask / 2 ≡ bit_and (value / 2) (mask / 2) = omega (arith, and_step value mask) in
    let again : bit_and (bit_and value mask / 2) (mask / 2) ≡ bit_and (value / 2) (mask / 2) =
    ap (λ (x : ℕ). bit_and x (mask / 2)) low ∙ kept_again n (value / 2) (mask / 2) (omega arith)
    in
    omega (arith, again, and_step value mask, and_step (bit_and value mask) mask)

-- The lines of `sound` but for the running count and the start, and those of the running count.
record Set (s : State) : Type 0 where
  level : leb s.level 3 ≡ true
  size : one_of (0 ∷ sizes) s.size ≡ true
  v1p1 : leb s.v1p1 1 ≡ true
  p : within platform_mask s.p ≡ true
  brbcr1 : within control_mask s.brbcr1 ≡ true
  brbcr2 : within control_mask s.brbcr2 ≡ true
  brbfcr : within filter_mask s.brbfcr ≡ true
  is_open : unavailable s s.level ≡ false
  halted : leb s.halted 1 ≡ true

record Counts (r : Running) : Type 0 where
  count : leb r.count cap ≡ true
  unknown : leb r.unknown 1 ≡ true

lines : (s : State) → sound s ≡ true → Set s × Counts s.running
unfolding sound
lines s h = search each depth 13

sound_of : (s : State) (r : Running) (start : ℕ) → Set s → Counts r → is_place s.size start ≡ true → sound (with_start start (with_running r s)) ≡ true
unfolding sound unavailable
sound_of s r start a b place =
    rw (a.level, a.size, a.v1p1, a.p, a.brbcr1, a.brbcr2, a.brbfcr, a.is_open, b.count, b.unknown, a.halted, place)

sized : (size : ℕ) → one_of sizes size ≡ true → one_of (0 ∷ sizes) size ≡ true
sized size e = rw e

entered : (s : State) (level : ℕ) → ltb 3 level ≡ false → unavailable s level ≡ false → Set s → Set (at_level level s)
unfolding unavailable
entered s level low permitted t = let high : leb level 3 ≡ true = le-leb level 3 (ltb-false 3 level low) in search

resumed : (s : State) (level : ℕ) → ltb 3 level ≡ false → unavailable s level ≡ false → Set s → Set (resumed_at level s)
unfolding unavailable
resumed s level low permitted t = let high : leb level 3 ≡ true = le-leb level 3 (ltb-false 3 level low) in search

within_kept : (f : Bool) (mask value old : ℕ) → within mask old ≡ true → within mask (cond f (bit_and value mask) old) ≡ true
within_kept true mask value old h = eq-eqb _ _ (kept_again value value mask (le_refl value))
within_kept false mask value old h = h

written : (s : State) (f : Bool) (k value : ℕ) → Set s → Set (cond f (register_written s k value) s)
unfolding unavailable register_written
written s true k value t =
    let one = within_kept (eqb k 1) control_mask value s.brbcr1 t.brbcr1 in
    let two = within_kept (eqb k 2) control_mask value s.brbcr2 t.brbcr2 in
    let three = within_kept (eqb k 3) filter_mask value s.brbfcr t.brbfcr in
    search
written s false k value t = t

-- BRBFCR_EL1 has no bit outside its mask, of whose lowest eight bits only PAUSED is one: so it has none with PAUSED set either.
paused_within : (x : ℕ) → within filter_mask x ≡ true → within filter_mask (with_bit 7 x) ≡ true
paused_within x h =
    let same : bit_and x filter_mask ≡ x = eqb-true (bit_and x filter_mask) x h in
    let high : bit_and (x / 256) (filter_mask / 256) ≡ x / 256 = sym (and_shr x filter_mask 8) ∙ ap (λ (n : ℕ). n / 256) same in
    let low : x % 256 / 128 % 2 * 128 ≡ x % 256 = sym (and_high (x % 256) 1 7) ∙ sym (and_mod x filter_mask 8) ∙ ap (λ (n : ℕ). n % 256) same in
    let y : ℕ = with_bit 7 x in
    let (above, below) = others_stay x in
    let is : y / 128 % 2 ≡ 1 = eqb-true (y / 128 % 2) 1 (is_set_lem x) in
    let least : y % 256 ≡ 128 = omega arith in
    let whole : y ≡ x / 256 * 256 + 128 = omega arith in
    eq-eqb _ _ (ap (λ (n : ℕ). bit_and n filter_mask) whole ∙ and_block 8 (x / 256) (filter_mask / 256) 128 128 (omega arith) (omega arith) ∙ ap (λ (n : ℕ). n * 256 + 128) high ∙ sym whole)

frozen : (s : State) (f : Bool) (time : ℕ) → Set s → Set (cond f (frozen_at time s) s)
unfolding unavailable
frozen s true time t = let paused = paused_within s.brbfcr t.brbfcr in search
frozen s false time t = t

set_after : {s : State} {room : ℕ} (o : Operation) → Accepts s o room → Set s → Set (changed s o)
unfolding changed outside_list wrong_level unavailable overflowed
set_after (Reset size v1p1) a t =
    let listed : one_of (0 ∷ sizes) size ≡ true = sized size (search each) in
    let flag : leb v1p1 1 ≡ true = le-leb v1p1 1 (ltb-false 1 v1p1 (search each)) in
    search
set_after (Branch kind m source target) a t = t
set_after {s} (Exception kind level source target) a t = entered s level (search each) (search each) t
set_after {s} (Return level m source target) a t = entered s level (search each) (search each) t
set_after {s} (Platform p) a t =
    let inside : within platform_mask p ≡ true = search each in
    let top : unavailable (with_platform p s) s.level ≡ false = rw (eqb-true s.level 3 (search each)) in
    search
set_after (Read r) a t = t
set_after {s} (Write r value) a t = written s (is_done (write_outcome s r)) (meant s r) value t
set_after Iall a t = t
set_after {s} (Halt source) a t = search
set_after {s} (Resume target level) a t = resumed s level (search each) (search each) t
set_after {s} (Freeze group physical virtual_offset guest_offset) a t = frozen s (freezes s group) _ t
set_after Unknown a t = t

counts_passed : (s : State) (o : Operation) (cycles : ℕ) → Counts s.running → Counts (passed s o cycles)
unfolding passed
counts_passed s o cycles c = record { count = le-leb (min (s.running.count + cycles) cap) cap (omega arith); unknown = either_flag (occasion s o) }
  where
    either_flag : (f : Bool) → leb (cond f 1 s.running.unknown) 1 ≡ true
    either_flag true = refl
    either_flag false = c.unknown

counts_after : (e : Effect) (r : Running) → Counts r → Counts (running_after e r)
counts_after Keep r c = c
counts_after (Push new) r c = record { count = refl; unknown = refl }
counts_after Clear r c = c
counts_after (ResetTo size) r c = record { count = refl; unknown = refl }

-- The start after an effect is a place of the size after it.
first_place : (size : ℕ) → is_place size 0 ≡ true
first_place size = or_true (ltb 0 size)

place_after_lem : {size start room running after : ℕ} {e : Effect} → Allowed size start room running e after → is_place size start ≡ true
    → is_place after (start_after size start e) ≡ true
unfolding start_after
place_after_lem keeps h = h
place_after_lem {size} {start} (pushes place fits takes) h = rw (lt-ltb (below size start) size (below_place size start place))
place_after_lem {size} (clears fits) h = first_place size
place_after_lem (resets_to {n = n} fits) h = first_place n

pub sound_kept : (m : Machine) (t : Timed) → sound m.state ≡ true → sound (stepped m t).state ≡ true
unfolding stepped step_of accepted
sound_kept m t h = go (is_accepted m t) refl
  where
    go : (b : Bool) → is_accepted m t ≡ b → sound (stepped m t).state ≡ true
    go true e =
        let (set, counts) = lines m.state h in
        let accepts = accepts_if m.state t.operation (length m.room) e in
        let running = passed m.state t.operation t.cycles in
        rw e
        (sound_of (changed m.state t.operation) _ _ (set_after t.operation accepts set)
        (counts_after (effect_of m.state t.operation _) _ (counts_passed m.state t.operation t.cycles counts))
        (place_after_lem (allowed m.state running (length m.room) t.operation accepts) (is_place_lem m.state h)))
    go false e = rw e h

pub sound-run : (m : Machine) (list : List Timed) → sound m.state ≡ true → sound (run m list).state ≡ true
unfolding run
sound-run m [] h = h
sound-run m (t ∷ list) h = sound-run (stepped m t) list (sound_kept m t h)

-- The fresh state is sound, and so is one in which a reset is accepted.
pub sound_from : {m : Machine} {list : List Timed} → FromReset m list → sound m.state ≡ true
unfolding sound unavailable
sound_from unset = refl
sound_from (reset {m = m} {size = size} {v1p1 = v1p1} e) = (accepts_if m.state (Reset size v1p1) (length m.room) e).is_sound

other : (t : Bool) (n rest : ℕ) → eqb n 7 ≡ false → eqb rest 7 ≡ false → eqb (cond t n rest) 7 ≡ false
other true n rest h k = h
other false n rest h k = k

not_7 : (s : State) (o : Operation) (room : ℕ) → sound s ≡ true → eqb (refusal_of s o room) 7 ≡ false
unfolding refusal_of
not_7 s o room h = rw h (other (unknown_code o) 2 _ refl (search other depth 9))

-- In a sequence from a reset, and so from the fresh state, refusal 7 is never given.
pub never_unsound : (m : Machine) (list : List Timed) → FromReset m list → (o : Operation)
    → refusal_of (run m list).state o (length (run m list).room) ≢ 7
never_unsound m list from o e = never (cc (rw e at (not_7 (run m list).state o (length (run m list).room) (sound-run m list (sound_from from)))))

-- ---- The replay program's room: 192 numbers are enough for any size.

largest : (size : ℕ) → one_of (0 ∷ sizes) size ≡ true → size ≤ 64
largest size h =
    go (either (eqb size 64)) (either (eqb size 32)) (either (eqb size 16)) (either (eqb size 8)) (either (eqb size 0))
  where
    is : (n : ℕ) → n ≤ 64 → eqb size n ≡ true → size ≤ 64
    is n small e = let same = eqb-true size n e in omega arith

    go : (eqb size 64 ≡ true) ⊎ (eqb size 64 ≡ false) → (eqb size 32 ≡ true) ⊎ (eqb size 32 ≡ false)
        → (eqb size 16 ≡ true) ⊎ (eqb size 16 ≡ false)
        → (eqb size 8 ≡ true) ⊎ (eqb size 8 ≡ false)
        → (eqb size 0 ≡ true) ⊎ (eqb size 0 ≡ false)
        → size ≤ 64
    go (inl a) b c d e = is 64 (omega arith) a
    go (inr a) (inl b) c d e = is 32 (omega arith) b
    go (inr a) (inr b) (inl c) d e = is 16 (omega arith) c
    go (inr a) (inr b) (inr c) (inl d) e = is 8 (omega arith) d
    go (inr a) (inr b) (inr c) (inr d) (inl e) = is 0 (omega arith) e
    go (inr a) (inr b) (inr c) (inr d) (inr e) = never (cc (rw (a, b, c, d, e) at h))

-- A sound state has at most 64 records.
pub largest_size : (s : State) → sound s ≡ true → s.size ≤ 64
largest_size s h = largest s.size (lines s h).0.size

size_bound : (s : State) (o : Operation) → sound s ≡ true → outside_list o ≡ false → (changed s o).size ≤ 64
unfolding outside_list changed
size_bound s o h listed = go (resets o) listed
  where
    go : {o : Operation} → Resets o → outside_list o ≡ false → (changed s o).size ≤ 64
    go (is_reset_lem {size = size}) l = largest size (sized size (search each))
    go (no_reset {o} is) l = rw (size_kept s o is) (largest_size s h)

not_six : (a b c d e f g : Bool) → (d ≡ false → g ≡ false)
    → first_that ((7, a) ∷ (2, b) ∷ (3, c) ∷ (4, d) ∷ (8, e) ∷ (5, f) ∷ (6, g) ∷ []) ≢ 6
not_six true b c d e f g h p = omega arith
not_six false true c d e f g h p = omega arith
not_six false false true d e f g h p = omega arith
not_six false false false true e f g h p = omega arith
not_six false false false false true f g h p = omega arith
not_six false false false false false true g h p = omega arith
not_six false false false false false false g h p = let none = h refl in omega (arith, rw none at p)

-- With room for 64 records no operation on a sound state is refused for its room.
pub never_short : (s : State) (o : Operation) → sound s ≡ true → refusal_of s o 192 ≢ 6
unfolding refusal_of room_too_short
never_short s o h =
    not_six (not (sound s)) (unknown_code o) (not_reset s o) (outside_list o) (wrong_halted s o) (wrong_level s o) (ltb 192 (needed (changed s o).size))
    (λ listed. le-ltb 192 (needed (changed s o).size) (omega (arith, size_bound s o h listed)))
