-- T is what demand 3 says in words: the exact cycles of the accepted operations after the oldest's event up to and including
-- the newest's, by the operations alone.
use Prim.Native.Nat.{ℕ, ◌+◌}
use native.Mathlib.Omega.{arith}
use mathlib.Core.Path.{◌≡◌, refl, sym, ap, ◌∙◌}
use mathlib.Core.Bool.{Bool, true, false, cond, ◌&&◌}
use mathlib.Core.List.{List, [], ◌∷◌, ◌++◌, append_assoc}
use lib.ListN.{length, length-append}
use Rattle.bits.proofs.Cases.{never}
use Rattle.room.specs.declared.Record.{Record}
use Rattle.room.specs.declared.Effect.{Effect}
use Rattle.room.specs.declared.Effect.TheVariants.{Keep, Push, Clear, ResetTo}
use Rattle.history.proofs.Demand3.{forgotten}
use Rattle.history.specs.History.{Timed, Machine, stepped, run, Note, Noted, is_accepted, effect_in, clock_after, notes_after, noted_step, noted_run, history, notes_of, note, T, accepted_cycles, just_made}
use Rattle.history.specs.Events.{is_reset, restarts, how_many}
use Rattle.history.proofs.Counts.{none_does}

-- ---- without a reset the clock runs on, and notes are only added

data RunsOn : Effect → Type 0 where
  keeps : RunsOn Keep
  pushes : {new : Record} → RunsOn (Push new)
  clears : RunsOn Clear

runs_on : (e : Effect) → is_reset e ≡ false → RunsOn e
runs_on Keep h = keeps
runs_on (Push new) h = pushes
runs_on Clear h = clears
runs_on (ResetTo size) h = never (cc)

-- From one point of a run to a later one: so many cycles, and these notes.
pub record Since (x y : Noted) (cycles : ℕ) : Type 0 where
  pub clock : y.clock ≡ x.clock + cycles
  pub new : List Note
  pub notes : y.notes ≡ new ++ x.notes

effect_since : {e : Effect} (x : Noted) (m : Machine) (cycles : ℕ) → RunsOn e
    → Since x (record { machine = m; clock = clock_after e (x.clock + cycles); notes = notes_after e (x.clock + cycles) x.notes }) cycles
effect_since x m cycles keeps = record { clock = refl; new = []; notes = refl }
effect_since x m cycles (pushes {new = new}) = record { clock = refl; new = record { time = x.clock + cycles; made = new } ∷ []; notes = refl }
effect_since x m cycles clears = record { clock = refl; new = []; notes = refl }

step_since : (x : Noted) (t : Timed) → restarts x.machine t ≡ false
    → Since x (noted_step x t) (cond (is_accepted x.machine t) t.cycles 0)
unfolding noted_step
step_since x t h = go (is_accepted x.machine t) h
  where
    go : (b : Bool) → b && is_reset (effect_in x.machine t) ≡ false → Since x (record {
      machine = stepped x.machine t;
      clock = cond b (clock_after (effect_in x.machine t) (x.clock + t.cycles)) x.clock;
      notes = cond b (notes_after (effect_in x.machine t) (x.clock + t.cycles) x.notes) x.notes;
    }) (cond b t.cycles 0)
    go true k = effect_since x (stepped x.machine t) t.cycles (runs_on (effect_in x.machine t) k)
    go false k = record { clock = omega arith; new = []; notes = refl }

pub run_since : (x : Noted) (list : List Timed) → how_many restarts x.machine list ≡ 0 → Since x (noted_run x list) (accepted_cycles x.machine list)
unfolding noted_run noted_step how_many accepted_cycles
run_since x [] h = record { clock = omega arith; new = []; notes = refl }
run_since x (t ∷ list) h =
    let (first, others) = none_does (restarts x.machine t) (how_many restarts (stepped x.machine t) list) h in
    let one = step_since x t first in
    let rest = run_since (noted_step x t) list others in
    record {
      clock = omega (arith, one.clock, rest.clock);
      new = rest.new ++ one.new;
      notes = rest.notes ∙ ap (λ (l : List Note). rest.new ++ l) one.notes ∙ sym (append_assoc rest.new one.new x.notes);
    }

-- ---- T

pub noted_parts : (x : Noted) (before after : List Timed) → noted_run x (before ++ after) ≡ noted_run (noted_run x before) after
unfolding noted_run
noted_parts x [] after = refl
noted_parts x (t ∷ before) after = noted_parts (noted_step x t) before after

note_past : (new notes : List Note) → note (length new) (new ++ notes) ≡ note 0 notes
note_past [] notes = refl
note_past (x ∷ new) notes = note_past new notes

-- Two records, the newer one n records after the older: `before` ends with the older one's event, `after` with the newer one's,
-- and no reset is accepted between. T is the cycles of the accepted operations of `after`.
pub exact_time : (m : Machine) (before after : List Timed) (n : ℕ) → how_many restarts (run m before) after ≡ 0 → just_made (history m before)
    → just_made (history m (before ++ after))
    → length (notes_of m (before ++ after)) ≡ n + length (notes_of m before)
    → T (notes_of m (before ++ after)) 0 n ≡ accepted_cycles (run m before) after
exact_time m before after n h old new between =
    let x = history m before in
    let y = history m (before ++ after) in
    let parts : y ≡ noted_run x after = noted_parts _ before after in
    let machine : x.machine ≡ run m before = forgotten _ before in
    let since = run_since x after (rw machine h) in
    let notes : y.notes ≡ since.new ++ x.notes = ap (λ (z : Noted). z.notes) parts ∙ since.notes in
    let clock : y.clock ≡ x.clock + accepted_cycles x.machine after = ap (λ (z : Noted). z.clock) parts ∙ since.clock in
    let count : 0 + n ≡ length since.new = omega (arith, ap length notes, length-append since.new x.notes) in
    let older : note (0 + n) y.notes ≡ note 0 x.notes = rw (count, notes) (note_past since.new x.notes) in
    rw (← machine) (omega (arith, old, new, clock, ap (λ (z : Note). z.time) older))
