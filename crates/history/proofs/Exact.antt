-- Demand 3 by the operations alone: for every stretch the run is parted at the events of its oldest and its newest record, and the cycles of
-- the accepted operations between are near S and not above U.
use Prim.Native.Nat.{ℕ, zero, suc, ◌+◌, ◌-◌, ◌≤◌}
use native.Mathlib.Nat.{add-zero}
use native.Mathlib.Omega.{arith}
use mathlib.Core.Path.{◌≡◌, refl, sym, ap, subst, ◌∙◌}
use mathlib.Core.Bool.{Bool, true, false, cond, ◌&&◌}
use mathlib.Core.List.{List, [], ◌∷◌, ◌++◌, append_assoc, append-nil}
use lib.ListN.{length, take, replicate}
use Rattle.bits.proofs.Each.{each}
use Rattle.state.specs.declared.Running.{Running}
use Rattle.room.specs.declared.Record.{Record}
use Rattle.room.specs.declared.Effect.{Effect}
use Rattle.room.specs.declared.Effect.TheVariants.{Keep, Push, Clear, ResetTo}
use Rattle.room.specs.Room.{zero_record, records, numbered, room_after, start_after}
use Rattle.room.proofs.Laws.{after_push, after_clear, after_reset_lem}
use Rattle.operation.proofs.Laws.{accepts_if}
use Rattle.change.specs.Change.{passed, effect_of}
use Rattle.recorder.specs.Step.{accepted, step_of}
use Rattle.history.specs.History.{Timed, Machine, stepped, run, shown, Note, Noted, is_accepted, effect_in, clock_after, notes_after, noted_step, noted_run, history, notes_of, note, reset_with, FromReset, reset, unset, is_valid, stretch, S, U, T, Within, accepted_cycles}
use Rattle.history.specs.Events.{is_reset, is_emptying, makes_record, restarts, empties, how_many, EventOf, Between}
use Rattle.history.proofs.Notes.{zero_invalid, numbered_zeros, moved_up}
use Rattle.history.proofs.Allowed.{Allowed, keeps, pushes, clears, resets_to, allowed}
use Rattle.history.proofs.Demand3.{plain, noted, demand_3}
use Rattle.history.proofs.Counts.{run_parts, in_parts, one_more}
use Rattle.history.proofs.Clock.{noted_parts, run_since}

-- ---- one step

-- What a step does to the records as reads show them, and to the notes, where `clock` is the time after it.
data Outcome (m : Machine) (t : Timed) (old notes : List Note) (clock : ℕ) : Type 0 where
  same : makes_record m t ≡ false → empties m t ≡ false → shown (stepped m t) ≡ shown m → notes ≡ old → Outcome m t old notes clock
  made : {new : Record} → is_accepted m t ≡ true → effect_in m t ≡ Push new
      → shown (stepped m t) ≡ new ∷ take (m.state.size - 1) (shown m)
      → notes ≡ record { time = clock; made = new } ∷ old
      → Outcome m t old notes clock
  emptied : (size : ℕ) → shown (stepped m t) ≡ replicate size zero_record → Outcome m t old notes clock

module _ (m : Machine) (t : Timed) (old : List Note) (now : ℕ) (is : is_accepted m t ≡ true) where
  by_effect : {e : Effect} {running after : ℕ} → Allowed m.state.size m.state.start (length m.room) running e after → effect_in m t ≡ e
      → shown (stepped m t) ≡ records after (start_after m.state.size m.state.start e) (room_after m.state.size m.state.start e m.room) → Outcome m t old (notes_after e now old) (clock_after e now)
  unfolding room_after start_after
  by_effect keeps e seen = same (rw (is, e)) (rw (is, e)) seen refl
  by_effect (pushes {new = new} place fits takes) e seen =
      made is e (seen ∙ after_push m.state.size m.state.start new m.room place fits) refl
  by_effect (clears fits) e seen = emptied m.state.size (seen ∙ after_clear m.state.size m.state.start m.room fits)
  by_effect (resets_to {n = n} fits) e seen = emptied n (seen ∙ after_reset_lem m.state.size m.state.start n m.room fits)

outcome : (x : Noted) (t : Timed) → Outcome x.machine t x.notes (noted_step x t).notes (noted_step x t).clock
unfolding noted_step stepped step_of accepted
outcome x t = go (is_accepted x.machine t) refl
  where
    m : Machine
    m = x.machine

    r : Running
    r = passed m.state t.operation t.cycles

    go : (b : Bool) → is_accepted m t ≡ b → Outcome m t x.notes (noted_step x t).notes (noted_step x t).clock
    go true e =
        let can = allowed m.state r (length m.room) t.operation (accepts_if m.state t.operation (length m.room) e) in
        rw e (by_effect m t x.notes (x.clock + t.cycles) e can refl (rw e))
    go false e = rw e (same (rw e) (rw e) (rw e) refl)

-- ---- where the events are

0-plus : (n : ℕ) → 0 + n ≡ n
0-plus n = omega arith

suc_plus : (j n : ℕ) → suc j + n ≡ suc (j + n)
suc_plus j n = omega arith

module _ (m : Machine) where
  -- A record's event, one operation on: the record moves up where that operation makes one, and it must not leave none.
  event_on : {before after : List Timed} {i j : ℕ} {new : Record} (t : Timed) → EventOf m before after i new
      → j ≡ i + cond (makes_record (run (run m before) after) t) 1 0
      → empties (run (run m before) after) t ≡ false
      → EventOf m before (after ++ (t ∷ [])) j new
  event_on {before} {after} t e up stays =
      let none : ◌≡◌ {A = ℕ} (cond (empties (run (run m before) after) t) 1 0) 0 = rw stays in
      record {
        event = e.event;
        moved = omega (arith, one_more makes_record (run m before) after t, e.moved);
        kept = omega (arith, one_more empties (run m before) after t, e.kept);
      }

  -- The events of two records, and that their notes have the times at which the two parts of the run end.
  record Traced (done : List Timed) (i n : ℕ) : Type 0 where
    between : Between m done i n
    older : (note (i + n) (notes_of m done)).time ≡ (history m between.before).clock
    newer : (note i (notes_of m done)).time ≡ (history m (between.before ++ between.middle)).clock

  abbrev Valid : List Timed → ℕ → Type 0
  Valid done i = is_valid (numbered i (shown (run m done))) ≡ true

  abbrev AllTraced : List Timed → Type 0
  AllTraced done = (i n : ℕ) → Valid done i → Valid done (i + n) → Traced done i n

  module _ (done : List Timed) (t : Timed) where
    abbrev further : List Timed
    further = done ++ (t ∷ [])

    run_further : run m further ≡ stepped (run m done) t
    unfolding run
    run_further = run_parts m done (t ∷ [])

    history_further : history m further ≡ noted_step (history m done) t
    unfolding noted_run
    history_further = noted_parts _ done (t ∷ [])

    -- Where the parts of the run end, and the whole one operation on.
    module _ {i n : ℕ} (b : Between m done i n) where
      from_older : run (run m b.before) (b.middle ++ b.after) ≡ run m done
      from_older = sym (run_parts m b.before (b.middle ++ b.after)) ∙ ap (run m) (sym b.whole)

      from_newer : run (run m (b.before ++ b.middle)) b.after ≡ run m done
      from_newer =
          sym (run_parts m (b.before ++ b.middle) b.after) ∙ ap (run m) (append_assoc b.before b.middle b.after ∙ sym b.whole)

      whole_on : further ≡ b.before ++ (b.middle ++ (b.after ++ (t ∷ [])))
      whole_on = ap (λ (l : List Timed). l ++ (t ∷ [])) b.whole ∙ simp append_assoc

    -- Two records that stay: both move up where the operation makes a record.
    traced_on : {i j n : ℕ} → Traced done i n → j ≡ i + cond (makes_record (run m done) t) 1 0 → empties (run m done) t ≡ false
        → numbered (j + n) (shown (run m further)) ≡ numbered (i + n) (shown (run m done))
        → numbered j (shown (run m further)) ≡ numbered i (shown (run m done))
        → note (j + n) (notes_of m further) ≡ note (i + n) (notes_of m done)
        → note j (notes_of m further) ≡ note i (notes_of m done)
        → Traced further j n
    traced_on {i} {j} {n} x up stays old new old-note new-note =
        let b = x.between in
        record {
          between = record {
            before = b.before;
            middle = b.middle;
            after = b.after ++ (t ∷ []);
            whole = whole_on b;
            oldest = rw (old, ← append_assoc b.middle b.after (t ∷ [])) (event_on t b.oldest (rw (from_older b) (omega arith)) (rw (from_older b) stays));
            newest = rw new (event_on t b.newest (rw (from_newer b) up) (rw (from_newer b) stays));
          };
          older = ap (λ (k : Note). k.time) old-note ∙ x.older;
          newer = ap (λ (k : Note). k.time) new-note ∙ x.newer;
        }

    -- The record that the operation makes is the newest, and the other one is it too, or one that had a number before.
    module _ {new : Record} (is : is_accepted (run m done) t ≡ true) (makes : effect_in (run m done) t ≡ Push new)
        (seen : numbered 0 (shown (run m further)) ≡ new) (time : (note 0 (notes_of m further)).time ≡ (history m further).clock) where
      its_event : {list : List Timed} → list ≡ further → EventOf m list [] 0 (numbered 0 (shown (run m further)))
      unfolding how_many
      its_event e =
          record {
            event = record { earlier = done; event = t; ends = e; makes = (is, rw seen makes) };
            moved = refl;
            kept = refl;
          }

      traced_alone : Traced further 0 0
      traced_alone =
          let all = append-nil further in
          record {
            between = record { before = further; middle = []; after = []; whole = sym all; oldest = its_event refl; newest = its_event all };
            older = time;
            newer = rw all time;
          }

      traced_newest : {k : ℕ} → Traced done k 0 → numbered (suc k) (shown (run m further)) ≡ numbered k (shown (run m done))
          → note (suc k) (notes_of m further) ≡ note k (notes_of m done)
          → Traced further 0 (suc k)
      traced_newest {k} x old old-note =
          let b = x.between in
          let up = 0-plus (suc k) in
          let all : (b.before ++ b.middle) ++ (b.after ++ (t ∷ [])) ≡ further = append_assoc b.before b.middle (b.after ++ (t ∷ [])) ∙ sym (whole_on b) in
          record {
            between = record {
              before = b.before ++ b.middle;
              middle = b.after ++ (t ∷ []);
              after = [];
              whole = rw (append-nil (b.after ++ (t ∷ []))) (sym all);
              oldest = rw (up, append-nil (b.after ++ (t ∷ [])), old) (event_on t b.newest (rw (from_newer b, is, makes) (omega arith)) (rw (from_newer b, is, makes)));
              newest = its_event all;
            };
            older = rw up (ap (λ (x : Note). x.time) old-note ∙ x.newer);
            newer = rw all time;
          }

    -- A record is made: the others move up.
    module _ {new : Record} (traced : AllTraced done) (is : is_accepted (run m done) t ≡ true) (makes : effect_in (run m done) t ≡ Push new)
        (seen : shown (run m further) ≡ new ∷ take ((run m done).state.size - 1) (shown (run m done)))
        (notes : notes_of m further ≡ record { time = (history m further).clock; made = new } ∷ notes_of m done) where
      up : (k : ℕ) → Valid further (suc k) → (numbered (suc k) (shown (run m further)) ≡ numbered k (shown (run m done))) × Valid done k
      up k v =
          let e : numbered (suc k) (shown (run m further)) ≡ numbered k (shown (run m done)) = rw seen (moved_up (shown (run m done)) ((run m done).state.size - 1) k new (rw seen at v)) in
          (e, rw e at v)

      noted_up : (k : ℕ) → note (suc k) (notes_of m further) ≡ note k (notes_of m done)
      noted_up k = rw notes

      all_made : AllTraced further
      unfolding numbered
      all_made zero zero v w = traced_alone is makes (rw seen) (rw notes)
      all_made zero (suc k) v w =
          let (old, was) = up k (rw (0-plus (suc k)) at w) in
          traced_newest is makes (rw seen) (rw notes) (traced k 0 was (rw add-zero was)) old (noted_up k)
      all_made (suc j) n v w =
          let (New-is, new-was) = up j v in
          let (old-is, old-was) = up (j + n) (rw (suc_plus j n) at w) in
          traced_on (traced j n new-was old-was) (rw (is, makes) (omega arith)) (rw (is, makes)) (rw (suc_plus j n) old-is) New-is
          (rw (suc_plus j n) (noted_up (j + n))) (noted_up j)

    all_further : AllTraced done → AllTraced further
    all_further traced =
        let x = history m done in
        go (subst (λ (k : Machine). Outcome k t x.notes (noted_step x t).notes (noted_step x t).clock) (plain m done) (outcome x t))
      where
        go : Outcome (run m done) t (notes_of m done) (noted_step (history m done) t).notes (noted_step (history m done) t).clock → AllTraced further
        go (same none stays seen notes) i n v w =
            let all_seen : shown (run m further) ≡ shown (run m done) = ap shown run_further ∙ seen in
            let all-notes : notes_of m further ≡ notes_of m done = ap (λ (x : Noted). x.notes) history_further ∙ notes in
            traced_on (traced i n (rw all_seen at v) (rw all_seen at w)) (rw none (omega arith)) stays (rw all_seen) (rw all_seen) (rw all-notes) (rw all-notes)
        go (made is makes seen notes) i n v w =
            all_made traced is makes (ap shown run_further ∙ seen) (ap (λ (x : Noted). x.notes) history_further ∙ rw history_further notes) i n v w
        go (emptied size seen) i n v w = absurd (zero_invalid (numbered_zeros size i) (rw (ap shown run_further ∙ seen) at v))

-- ---- sequences from a reset

all_run : (m : Machine) (done rest : List Timed) → AllTraced m done → AllTraced m (done ++ rest)
all_run m done [] all = rw append-nil all
all_run m done (t ∷ rest) all = rw append_assoc at (all_run m (done ++ (t ∷ [])) rest (all_further m done t all))

-- Where nothing was noted there is no valid record.
none_noted : {m : Machine} {list : List Timed} → FromReset m list → notes_of m list ≡ [] → AllTraced m list
none_noted {m} {list} from none i n v w = absurd (omega (arith, (noted m list from i v).0, ap length none))

traced : {m : Machine} {list : List Timed} → FromReset m list → AllTraced m list
unfolding noted_run noted_step effect_of
traced (unset {room = room} {list = list}) = all_run _ [] list (none_noted unset refl)
traced (reset {m = m} {size = size} {v1p1 = v1p1} {cycles = cycles} {list = list} e) =
    all_run m (reset_with size v1p1 cycles ∷ []) list (none_noted (reset e) (rw e))

-- An accepted reset leaves no record.
no_more : (t : Bool) (e : Effect) → cond (t && is_reset e) 1 0 ≤ cond (t && is_emptying e) 1 0
no_more true Keep = omega arith
no_more true (Push new) = omega arith
no_more true Clear = omega arith
no_more true (ResetTo size) = omega arith
no_more false e = omega arith

restarts_empty : (m : Machine) (list : List Timed) → how_many restarts m list ≤ how_many empties m list
unfolding how_many
restarts_empty m [] = omega arith
restarts_empty m (t ∷ list) = omega (arith, no_more (is_accepted m t) (effect_in m t), restarts_empty (stepped m t) list)

-- The time between two points of a run that has no reset between them.
passed_between : (m : Machine) (before middle : List Timed) → how_many restarts (run m before) middle ≡ 0
    → (history m (before ++ middle)).clock ≡ (history m before).clock + accepted_cycles (run m before) middle
passed_between m before middle none =
    let machine = plain m before in
    ap (λ (x : Noted). x.clock) (noted_parts _ before middle)
    ∙ (run_since (history m before) middle (rw machine none)).clock
    ∙ ap (λ (k : Machine). (history m before).clock + accepted_cycles k middle) machine

-- The newest and the oldest record of a stretch are valid.
pub ends_valid : (list : List Record) (i n : ℕ) → stretch list i n ≡ true → (is_valid (numbered i list) ≡ true) × (is_valid (numbered (i + n) list) ≡ true)
unfolding stretch
ends_valid list i zero h = (h, rw add-zero h)
ends_valid list i (suc n) h =
    let rest = ends_valid list (suc i) n (search each) in
    let up : i + suc n ≡ suc i + n = omega arith in
    (search each, rw up rest.1)

-- Demand 3, by the operations alone. In any sequence from a reset, over the neighbouring records i to i + n that a read then shows, all
-- valid and all but the oldest with a known, not exceeded count: the cycles of the accepted operations after the oldest's event up to and
-- including the newest's are near S and not above U.
pub demand_3_exact : (m : Machine) (list : List Timed) → FromReset m list → (i n : ℕ) → stretch (shown (run m list)) i n ≡ true
    → (b : Between m list i n)
    × Within (S (shown (run m list)) i n) (U (shown (run m list)) i n) (accepted_cycles (run m b.before) b.middle)
demand_3_exact m list from i n h =
    let (newest, oldest) = ends_valid (shown (run m list)) i n h in
    let x = traced from i n newest oldest in
    let b = x.between in
    let cleared : how_many empties (run m b.before) b.middle ≡ 0 = omega (arith, b.oldest.kept, in_parts empties (run m b.before) b.middle b.after) in
    let none : how_many restarts (run m b.before) b.middle ≡ 0 = omega (arith, restarts_empty (run m b.before) b.middle) in
    let exact : T (notes_of m list) i n ≡ accepted_cycles (run m b.before) b.middle = omega (arith, x.older, x.newer, passed_between m b.before b.middle none) in
    (b, rw (← exact) (demand_3 m list from i n h))
