-- Demand 3. Each step keeps two facts of the noted run: one on times and counts, one on places. They are shown by the step's effect,
-- never by its operation; the rest is one induction over the sequence and one over the length of a stretch.
use Prim.Native.Nat.{ℕ, zero, suc, ◌+◌, ◌-◌, ◌≤◌, ◌<◌}
use native.Mathlib.Nat.{add-zero, add-suc, le_refl, le_trans}
use native.Mathlib.Omega.{arith}
use mathlib.Core.Path.{◌≡◌, refl, ap, ◌∙◌}
use mathlib.Core.Bool.{Bool, true, false}
use mathlib.Core.Logic.{⊎_elim}
use mathlib.Core.List.{List, [], ◌∷◌}
use lib.ListN.{length, get_or-eq_default}
use Rattle.bits.proofs.Cases.{below_or_not}
use Rattle.state.specs.declared.State.{State}
use Rattle.state.specs.declared.Running.{Running}
use Rattle.room.specs.declared.Effect.{Effect}
use Rattle.room.specs.Room.{needed, in_place, records, numbered, room_after, start_after}
use Rattle.room.proofs.Laws.{after_push, after_clear, after_reset_lem}
use Rattle.operation.specs.declared.Operation.TheVariants.{Reset}
use Rattle.operation.specs.Clause.{changed}
use Rattle.change.specs.Change.{passed, effect_of, running_after}
use Rattle.recorder.specs.Step.{accepted, step_of}
use Rattle.history.specs.History.{Timed, Machine, stepped, run, shown, Note, Noted, is_accepted, clock_after, notes_after, noted_step, noted_run, history, notes_of, FromReset, reset, unset, note, is_valid, is_counted, stretch, end_sum, S, U, T, Within}
use Rattle.bits.proofs.Each.{each}
use Rattle.history.proofs.Notes.{Timely, waited, began, made, Held, zero_invalid, held_cleared, held_pushed}
use Rattle.operation.proofs.Laws.{accepts_if}
use Rattle.history.proofs.Allowed.{Allowed, keeps, pushes, clears, resets_to, allowed}

-- ---- the invariant

pub record Good (x : Noted) : Type 0 where
  pub timely : Timely x.clock x.machine.state.running.count x.notes
  pub held : Held (shown x.machine) x.notes

-- The two facts after an effect, where the clock and the running count r already hold the operation's cycles.
after_effect : {size start after now : ℕ} {notes : List Note} {e : Effect} (room : List ℕ) (r : Running)
    → Allowed size start (length room) r.count e after
    → Timely now r.count notes → Held (records size start room) notes
    → Timely (clock_after e now) (running_after e r).count (notes_after e now notes)
    × Held (records after (start_after size start e) (room_after size start e room)) (notes_after e now notes)
unfolding room_after start_after
after_effect room r keeps t h = (t, h)
after_effect {size} {start} {now = now} {notes = notes} room r (pushes {new = new} place fits takes) t h =
    (made takes t, rw (after_push size start new room place fits) (held_pushed (records size start room) notes (size - 1) now new h))
after_effect {size} {start} {notes = notes} room r (clears fits) t h = (t, rw (after_clear size start room fits) (held_cleared size notes))
after_effect {size} {start} room r (resets_to {n = n} fits) t h = (began, rw (after_reset_lem size start n room fits) (held_cleared n []))

good_step : (x : Noted) (t : Timed) → Good x → Good (noted_step x t)
unfolding noted_step stepped step_of accepted passed
good_step x t g = go (is_accepted x.machine t) refl
  where
    s : State
    s = x.machine.state

    r : Running
    r = passed s t.operation t.cycles

    go : (b : Bool) → is_accepted x.machine t ≡ b → Good (noted_step x t)
    go true e =
        let can = allowed s r (length x.machine.room) t.operation (accepts_if s t.operation (length x.machine.room) e) in
        let two = after_effect x.machine.room r can (waited t.cycles g.timely) g.held in
        rw e (record { timely = two.0; held = two.1 })
    go false e = rw e g

good-run : (x : Noted) (list : List Timed) → Good x → Good (noted_run x list)
unfolding noted_run
good-run x [] g = g
good-run x (t ∷ list) g = good-run (noted_step x t) list (good_step x t g)

-- ---- what the notes are

-- Forgetting the notes gives the plain run.
pub forgotten : (x : Noted) (list : List Timed) → (noted_run x list).machine ≡ run x.machine list
unfolding noted_run noted_step run
forgotten x [] = refl
forgotten x (t ∷ list) = forgotten (noted_step x t) list

module _ (x : Noted) (g : Good x) where
  in_order : (i n : ℕ) → (note (i + n) x.notes).time ≤ (note i x.notes).time
  in_order i zero = rw add-zero (le_refl _)
  in_order i (suc n) = rw add-suc (le_trans (g.timely.falling (i + n)) (in_order i n))

  within-stretch : (i n : ℕ) → stretch (shown x.machine) i n ≡ true
      → Within (S (shown x.machine) i n) (U (shown x.machine) i n) (T x.notes i n)
  unfolding stretch end_sum
  within-stretch i zero h = rw add-zero (record { near = omega arith; under = omega arith })
  within-stretch i (suc n) h =
      let valid : is_valid (numbered i (shown x.machine)) ≡ true = search each in
      let counted : is_counted (numbered i (shown x.machine)) ≡ true = search each in
      let rest : stretch (shown x.machine) (suc i) n ≡ true = search each in
      let is : numbered i (shown x.machine) ≡ (note i x.notes).made = g.held i valid in
      let up : i + suc n ≡ suc i + n = omega arith in
      let one = g.timely.within i (rw is at counted) in
      let others = within-stretch (suc i) n rest in
      rw (up, is)
      (record {
        near = omega (arith, one.near, g.timely.falling i, in_order (suc i) n, others.near);
        under = omega (arith, one.under, g.timely.falling i, in_order (suc i) n, others.under);
      })

-- ---- sequences from a reset

good : {m : Machine} {list : List Timed} → FromReset m list → Good (history m list)
unfolding noted_run noted_step stepped step_of accepted effect_of changed room_after start_after in_place records
good (unset {list = list}) = good-run _ list (record { timely = began; held = held_cleared 0 [] })
good (reset {m = m} {size = size} {v1p1 = v1p1} {list = list} e) =
    let room : needed size ≤ length m.room = (accepts_if m.state (Reset size v1p1) (length m.room) e).room_enough in
    good-run _ list (rw e (record { timely = began; held = rw (after_reset_lem m.state.size m.state.start size m.room room) (held_cleared size []) }))

pub plain : (m : Machine) (list : List Timed) → (history m list).machine ≡ run m list
plain m list = forgotten (record { machine = m; clock = 0; notes = [] }) list

-- A valid place holds exactly the record noted there; in particular, there is a note.
pub noted : (m : Machine) (list : List Timed) → FromReset m list → (i : ℕ) → is_valid (numbered i (shown (run m list))) ≡ true
    → (i < length (notes_of m list)) × (numbered i (shown (run m list)) ≡ (note i (notes_of m list)).made)
noted m list from i v =
    let is : numbered i (shown (run m list)) ≡ (note i (notes_of m list)).made = rw (plain m list) at (good from).held i v in (
      ⊎_elim (λ l. l)
          (λ (none : length (notes_of m list) ≤ i). absurd (zero_invalid (is ∙ ap (λ n. n.made) (get_or-eq_default (notes_of m list) _ none)) v))
          (below_or_not i (length (notes_of m list))),
      is,
    )

-- Times are in order along the notes, so that T is a true difference.
pub ordered : (m : Machine) (list : List Timed) → FromReset m list → (i n : ℕ)
    → (note (i + n) (notes_of m list)).time ≤ (note i (notes_of m list)).time
ordered m list from = in_order (history m list) (good from)

-- Demand 3. In any sequence from a reset, over the neighbouring records i to i + n that a read then shows, all valid and
-- all but the oldest with a known, not exceeded count: S ≤ T and 256 * (T - S) ≤ S; and T ≤ U.
pub demand_3 : (m : Machine) (list : List Timed) → FromReset m list → (i n : ℕ) → stretch (shown (run m list)) i n ≡ true
    → Within (S (shown (run m list)) i n) (U (shown (run m list)) i n) (T (notes_of m list) i n)
demand_3 m list from = rw (plain m list) at (within-stretch (history m list) (good from))
