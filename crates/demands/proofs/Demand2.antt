-- Demand 2, on one operation: what an accepted operation does to the list of records, what a new record holds, and what a
-- read shows.
use Prim.Native.Nat.{ℕ, ◌+◌, ◌*◌, ◌/◌, ◌%◌, ◌≤◌, ◌<◌}
use mathlib.Core.Path.{◌≡◌, refl, ap, ◌∙◌}
use mathlib.Core.Bool.{Bool, true, false, cond, ◌&&◌, not}
use mathlib.Core.List.{List}
use native.Mathlib.Omega.{arith}
use native.Mathlib.Decide.{ℕ_discrete}
use borrow.Author.Tests.{ne_eqb}
use lib.Dec.{eqb}
use lib.ListN.{length, get_or-eq_default}
use Rattle.bits.proofs.Cases.{never}
use Rattle.state.specs.declared.State.{State}
use Rattle.state.specs.declared.Running.{Running}
use Rattle.state.specs.Named.{E2H, PAUSED, BANK, side, with_running}
use Rattle.state.proofs.Laws.{start-below}
use Rattle.room.specs.declared.Record.{Record}
use Rattle.room.specs.declared.Effect.{Effect}
use Rattle.room.specs.declared.Effect.TheVariants.{Keep, Push, Clear, ResetTo}
use Rattle.room.specs.Room.{zero_record, records, numbered, needed, room_after, start_after}
use Rattle.room.proofs.Laws.{size_after_effect, length-records, after_push, after_clear, after_reset_lem}
use Rattle.region.specs.Region.{prohibited}
use Rattle.event.specs.declared.Event.{Event}
use Rattle.event.specs.Event.{valid, record_of, becomes_record, event_effect}
use Rattle.event.proofs.Laws.{Hidden, record_hidden, Captured, record_captured}
use Rattle.answer.specs.declared.Answer.TheVariants.{Done, Value}
use Rattle.answer.specs.Answer.{is_done}
use Rattle.access.specs.Access.{read_outcome, iall_outcome, meant, shown_record, shown_number, register_value}
use Rattle.operation.specs.declared.Operation.{Operation}
use Rattle.operation.specs.declared.Operation.TheVariants.{Reset, Branch, Exception, Return, Platform, Read, Write, Iall, Halt, Resume, Freeze, Unknown}
use Rattle.operation.specs.Operation.{code_of}
use Rattle.operation.specs.Refusal.{not_reset, refusal_of}
use Rattle.operation.specs.Clause.{changed}
use Rattle.operation.proofs.Size.{Resets, is_reset_lem, no_reset, resets, size_kept}
use Rattle.operation.proofs.Laws.{accepts, sized}
use Rattle.change.specs.Change.{passed, effect_of, answer_of}
use Rattle.change.proofs.Laws.{of_effect}
use Rattle.change.proofs.Occasions.{unchanged-occasion}
use Rattle.running.specs.Ran.{ran}
use Rattle.recorder.specs.Result.{together}
use Rattle.recorder.specs.Step.{accepted, step_of}
use Rattle.recorder.proofs.Laws.{accepted_step, refused_step}
use Rattle.demands.specs.After.{records_after, records_left, IsEvent, branch, exception, return, halt, resume, entered, event_of, IsAccess, read, write, iall}

-- ---- inside_prohibited: an event wholly inside a prohibited region changes no record

never_wanted : {A : Type 0} (t : Bool) (new other : A) → cond (t && false) new other ≡ other
never_wanted true new other = refl
never_wanted false new other = refl

made_none : (s : State) (r : Running) (wanted : Bool) (e : Event) → prohibited s e.left ≡ true → prohibited s e.entered ≡ true
    → event_effect s wanted e r ≡ Keep
unfolding becomes_record valid
made_none s r wanted e source target = rw (source, target) (never_wanted (wanted && not (PAUSED s)) _ _)

effect_inside : (s : State) {o : Operation} (r : Running) (e : IsEvent o) → prohibited s (side s) ≡ true
    → prohibited s (entered s e) ≡ true → effect_of s o r ≡ Keep
unfolding effect_of
effect_inside s r branch source target = made_none s r _ _ source target
effect_inside s r exception source target = made_none s r _ _ source target
effect_inside s r return source target = made_none s r _ _ source target
effect_inside s r halt source target = made_none s r _ _ source target
effect_inside s r resume source target = made_none s r _ _ source target

event_sets_no_size : {o : Operation} → IsEvent o → eqb (code_of o) 0 ≡ false
event_sets_no_size branch = refl
event_sets_no_size exception = refl
event_sets_no_size return = refl
event_sets_no_size halt = refl
event_sets_no_size resume = refl

pub inside_prohibited : (s : State) {o : Operation} (cycles : ℕ) (room : List ℕ) (e : IsEvent o) → prohibited s (side s) ≡ true
    → prohibited s (entered s e) ≡ true
    → ((step_of s o cycles room).room ≡ room) × (records_left (step_of s o cycles room) ≡ records s.size s.start room)
unfolding accepted room_after start_after
inside_prohibited s {o} cycles room e source target = go (ℕ_discrete (refusal_of s o (length room)) 0)
  where
    go : Dec (refusal_of s o (length room) ≡ 0)
        → ((step_of s o cycles room).room ≡ room) × (records_left (step_of s o cycles room) ≡ records s.size s.start room)
    go (yes h) =
        let keeps = effect_inside s (passed s o cycles) e source target in (
          rw (accepted_step s o cycles room h, keeps),
          rw (accepted_step s o cycles room h, keeps) (ap (λ (size : ℕ). records size s.start room) (size_kept s o (event_sets_no_size e))),
        )
    go (no h) = (rw (refused_step s o cycles room h), rw (refused_step s o cycles room h))

-- ---- hidden_address_zero: a record holds 0 where the address of its prohibited side would stand

-- A record that was made is the one defined.
made_record : (s : State) (r : Running) (wanted : Bool) (e : Event) (new : Record) → event_effect s wanted e r ≡ Push new → new ≡ record_of s r e
made_record s r wanted e new h = go (becomes_record s wanted e) h
  where
    go : (t : Bool) → cond t (Push (record_of s r e)) Keep ≡ Push new → new ≡ record_of s r e
    go true p = cc
    go false p = never (cc)

-- A record that an operation made is the one defined for its event: what `event.proofs.Laws` says of that record, it says of this one.
pub made_of : (s : State) {o : Operation} (r : Running) (e : IsEvent o) (new : Record) → effect_of s o r ≡ Push new → new ≡ record_of s r (event_of s e)
unfolding effect_of
made_of s r branch new h = made_record s r _ _ new h
made_of s r exception new h = made_record s r _ _ new h
made_of s r return new h = made_record s r _ _ new h
made_of s r halt new h = made_record s r _ _ new h
made_of s r resume new h = made_record s r _ _ new h

-- It hides what is prohibited.
pub hidden_address_zero : (s : State) {o : Operation} (r : Running) (e : IsEvent o) (new : Record) → effect_of s o r ≡ Push new
    → Hidden s (side s) (entered s e) new
hidden_address_zero s r branch new h = rw (made_of s r branch new h) (record_hidden s r (event_of s branch))
hidden_address_zero s r exception new h = rw (made_of s r exception new h) (record_hidden s r (event_of s exception))
hidden_address_zero s r return new h = rw (made_of s r return new h) (record_hidden s r (event_of s return))
hidden_address_zero s r halt new h = rw (made_of s r halt new h) (record_hidden s r (event_of s halt))
hidden_address_zero s r resume new h = rw (made_of s r resume new h) (record_hidden s r (event_of s resume))

-- ... and has the event's own numbers where nothing is: addresses, level, prediction, type.
pub captured : (s : State) {o : Operation} (r : Running) (e : IsEvent o) (new : Record) → effect_of s o r ≡ Push new → Captured s (event_of s e) new
captured s r e new h = rw (made_of s r e new h) (record_captured s r (event_of s e))

-- ---- newest: what an accepted operation does to the list of records

-- The size that refusal 6 judges by is the size after the effect.
size_after : (s : State) (o : Operation) (r : Running) → (changed s o).size ≡ size_after_effect s.size (effect_of s o r)
unfolding effect_of changed
size_after s o r = go (resets o)
  where
    go : {o : Operation} → Resets o → (changed s o).size ≡ size_after_effect s.size (effect_of s o r)
    go is_reset_lem = refl
    go (no_reset {o} h) = size_kept s o h ∙ of_effect (λ e. s.size ≡ size_after_effect s.size e) s r refl refl (λ e. refl) o h

-- Only an event makes a record, and it needs a reset before it.
pub pushed_by : (s : State) (o : Operation) (r : Running) (new : Record) → effect_of s o r ≡ Push new → IsEvent o
unfolding effect_of
pushed_by s (Reset size v1p1) r new h = never (cc)
pushed_by s (Branch kind m source target) r new h = branch
pushed_by s (Exception kind level source target) r new h = exception
pushed_by s (Return level m source target) r new h = return
pushed_by s (Platform p) r new h = never (cc)
pushed_by s (Read register) r new h = never (cc)
pushed_by s (Write register value) r new h = never (cc)
pushed_by s Iall r new h = go (is_done (iall_outcome s)) h
  where
    go : (t : Bool) → cond t Clear Keep ≡ Push new → IsEvent Iall
    go true p = never (cc)
    go false p = never (cc)
pushed_by s (Halt source) r new h = halt
pushed_by s (Resume target level) r new h = resume
pushed_by s (Freeze group physical virtual_offset guest_offset) r new h = never (cc)
pushed_by s Unknown r new h = never (cc)

event_sized : (s : State) {o : Operation} → IsEvent o → not_reset s o ≡ false → 1 ≤ s.size
unfolding not_reset
event_sized s branch h = sized s.size h
event_sized s exception h = sized s.size h
event_sized s return h = sized s.size h
event_sized s halt h = sized s.size h
event_sized s resume h = sized s.size h

effect_records : (size start : ℕ) (e : Effect) (room : List ℕ) → ((new : Record) → e ≡ Push new → start < size)
    → needed (size_after_effect size e) ≤ length room
    → records (size_after_effect size e) (start_after size start e) (room_after size start e room) ≡ records_after size e (records size start room)
unfolding room_after start_after records_after
effect_records size start Keep room place enough = refl
effect_records size start (Push new) room place enough = after_push size start new room (place new refl) enough
effect_records size start Clear room place enough = after_clear size start room enough
effect_records size start (ResetTo n) room place enough = after_reset_lem size start n room enough

-- After an accepted operation the records are exactly those that its effect makes of the records before it: the new record in
-- front and the oldest lost, or the list unchanged, or all zero. Which of them, and every field of the new record, is
-- decided by the definition `effect_of`, at the running count that the operations have brought.
pub newest : (s : State) (o : Operation) (cycles : ℕ) (room : List ℕ) → refusal_of s o (length room) ≡ 0
    → records_left (step_of s o cycles room) ≡ records_after s.size (effect_of s o (passed s o cycles)) (records s.size s.start room)
unfolding accepted
newest s o cycles room h =
    let a = accepts s o (length room) h in
    let r = passed s o cycles in
    let size = size_after s o r in
    rw (accepted_step s o cycles room h)
    (ap (λ (n : ℕ). records n (start_after s.size s.start (effect_of s o r)) (room_after s.size s.start (effect_of s o r) room)) size
    ∙ effect_records s.size s.start (effect_of s o r) room
    (λ new p. start-below s a.is_sound (event_sized s (pushed_by s o r new p) a.was_reset))
    (rw size at a.room_enough))

-- ---- read_shows: what a record register shows is number m + 32 × BANK of the list

record_register : (s : State) (list : List Record) (r : ℕ) → 32 ≤ r → register_value s list r ≡ shown_number s list r
unfolding register_value
record_register s list r h =
    rw (ne_eqb r 0 (omega arith), ne_eqb r 1 (omega arith), ne_eqb r 2 (omega arith), ne_eqb r 3 (omega arith), ne_eqb r 4 (omega arith))

pub read_shows : (s : State) (list : List Record) (m : ℕ) → m < 32
    → (register_value s list (32 + m) ≡ (numbered (m + 32 * BANK s) list).inf)
    × (register_value s list (64 + m) ≡ (numbered (m + 32 * BANK s) list).source)
    × (register_value s list (96 + m) ≡ (numbered (m + 32 * BANK s) list).target)
unfolding shown_number shown_record
read_shows s list m h =
    let low : (k : ℕ) → (32 * k + m) % 32 ≡ m = λ k. omega arith in
    let high : (k : ℕ) → (32 * k + m) / 32 ≡ k = λ k. omega arith in (
      rw (record_register s list (32 + m) (omega arith), low 1, high 1),
      rw (record_register s list (64 + m) (omega arith), low 2, high 2),
      rw (record_register s list (96 + m) (omega arith), low 3, high 3),
    )

-- ... and past the size it shows 0.
pub read_past : (s : State) (size start m : ℕ) (room : List ℕ) → size ≤ m + 32 * BANK s
    → numbered (m + 32 * BANK s) (records size start room) ≡ zero_record
unfolding numbered
read_past s size start m room h = get_or-eq_default (records size start room) zero_record (rw (length-records size start room) h)

-- What a performed read answers.
pub read_answer : (s : State) (r cycles : ℕ) (room : List ℕ) → refusal_of s (Read r) (length room) ≡ 0 → read_outcome s r ≡ Done
    → (step_of s (Read r) cycles room).answer ≡ Value (register_value s (records s.size s.start room) (meant s r))
unfolding accepted answer_of
read_answer s r cycles room h done = rw (accepted_step s (Read r) cycles room h, done)

-- A record register past the size answers 0, whatever BANK is: BRBINF, BRBSRC and BRBTGT are registers 32, 64 and 96 on.
pub past_the_size : (s : State) (kind m cycles : ℕ) (room : List ℕ) → 1 ≤ kind → m < 32 → s.size ≤ m + 32 * BANK s
    → refusal_of s (Read (32 * kind + m)) (length room) ≡ 0
    → read_outcome s (32 * kind + m) ≡ Done
    → (step_of s (Read (32 * kind + m)) cycles room).answer ≡ Value 0
unfolding shown_number shown_record
past_the_size s kind m cycles room low h past accept done =
    let r : ℕ = 32 * kind + m in
    let itself : meant s r ≡ r = rw (ne_eqb r 1 (omega arith)) (never_wanted (eqb s.level 2 && E2H s) 2 r) in
    let number : r % 32 ≡ m = omega arith in
    read_answer s r cycles room accept done
    ∙ ap Value (rw (itself, record_register s (records s.size s.start room) r (omega arith), number, read_past s s.size s.start m room past) (all_zero (eqb (r / 32) 1) (eqb (r / 32) 2)))
  where
    all_zero : (a b : Bool) → ◌≡◌ {A = ℕ} (cond a 0 (cond b 0 0)) 0
    all_zero true b = refl
    all_zero false true = refl
    all_zero false false = refl

-- ---- not-performed: an access that is not performed changes nothing but the count and its occasions

-- The answer is how the access ended, the running count takes the cycles, an operation that began at a prohibited level or in Debug state makes the
-- next count unknown, and every other number of the state and every number of the room is as it was.
pub not_performed : (s : State) {o : Operation} (cycles : ℕ) (room : List ℕ) → refusal_of s o (length room) ≡ 0 → IsAccess o
    → is_done (answer_of s o room) ≡ false
    → step_of s o cycles room
    ≡ together (answer_of s o room) (with_running (ran s.running (prohibited s (side s)) cycles) s) room
unfolding accepted changed effect_of room_after start_after answer_of passed
not_performed s {o} cycles room h a ended = rw (accepted_step s o cycles room h) (go a ended)
  where
    go : {o : Operation} → IsAccess o → is_done (answer_of s o room) ≡ false
        → accepted s o cycles room ≡ together (answer_of s o room) (with_running (ran s.running (prohibited s (side s)) cycles) s) room
    go (read {r = r}) e = rw (unchanged-occasion s (Read r) refl refl)
    go (write {r = r} {value = value}) e = rw (e, unchanged-occasion s (Write r value) (rw e) refl)
    go iall e = rw (e, unchanged-occasion s Iall refl e)
