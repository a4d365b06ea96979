-- When a record's count is unknown, and what it is where it is known: by the operations of the run alone, without flag or running count.
use Prim.Native.Nat.{ℕ, ◌+◌, ◌≤◌, ◌<◌, min}
use native.Mathlib.Omega.{arith}
use mathlib.Core.Path.{◌≡◌, refl, sym, ap, ◌∙◌}
use mathlib.Core.Bool.{Bool, true, false, cond}
use mathlib.Core.Logic.{◌↔◌, ◌⊎◌, inl, inr, ⊎_elim}
use mathlib.Core.List.{List, [], ◌∷◌, ◌++◌, append-nil}
use borrow.Author.Tests.{eq-eqb, eqb-true, not-true}
use lib.Dec.{eqb}
use lib.ListN.{length}
use Rattle.bits.proofs.Cases.{never, either, or_true, below_or_not}
use Rattle.count.specs.Count.{largest_count, encoded}
use Rattle.count.proofs.Laws.{above, encoded_fits}
use Rattle.state.specs.declared.State.{State}
use Rattle.state.specs.declared.Running.{Running}
use Rattle.state.specs.Named.{counting, fresh}
use Rattle.state.specs.Sound.{cap}
use Rattle.room.specs.declared.Record.{Record}
use Rattle.room.specs.declared.Effect.{Effect}
use Rattle.room.specs.declared.Effect.TheVariants.{Keep, Push, Clear, ResetTo}
use Rattle.event.specs.declared.Event.{Event}
use Rattle.event.specs.Event.{count_unknown, packed, BRBINF, record_of}
use Rattle.operation.specs.declared.Operation.{Operation}
use Rattle.operation.specs.Operation.{code_of}
use Rattle.operation.proofs.Size.{Resets, is_reset_lem, no_reset, resets, size_kept}
use Rattle.operation.proofs.Laws.{accepts_if}
use Rattle.change.specs.Change.{occasion, passed, effect_of}
use Rattle.change.proofs.Laws.{of_effect}
use Rattle.change.proofs.Occasions.{Occasion, is_occasion, which_occasion}
use Rattle.recorder.specs.Step.{accepted, step_of}
use Rattle.history.specs.History.{Timed, Machine, stepped, run, is_accepted, effect_in, CCU, CC, FromReset, reset, unset, reset_with, accepted_cycles}
use Rattle.history.specs.Events.{is_push, is_reset, makes_record, restarts, how_many, Makes, EndsMaking, Occurs, now, later, IsReset, a_reset, CountUnknown, counting_off, no_record, on_occasion, SinceRecord}
use Rattle.history.proofs.Allowed.{Allowed, keeps, pushes, clears, resets_to, allowed}
use Rattle.history.proofs.Counts.{run_parts, none_does}

-- ---- one step

abbrev flag : Machine → ℕ
flag m = m.state.running.unknown

abbrev ran : Machine → Timed → Running
ran m t = passed m.state t.operation t.cycles

-- What a step does to the running count: nothing where it is refused; else it takes the cycles and the occasion, a record takes it and a
-- reset drops it.
data Ran (m : Machine) (t : Timed) : Type 0 where
  refuses : is_accepted m t ≡ false → stepped m t ≡ m → Ran m t
  goes_on : is_accepted m t ≡ true → is_push (effect_in m t) ≡ false → is_reset (effect_in m t) ≡ false
      → eqb (code_of t.operation) 0 ≡ false
      → (stepped m t).state.running ≡ ran m t
      → Ran m t
  taken : {new : Record} → is_accepted m t ≡ true → effect_in m t ≡ Push new
      → (stepped m t).state.running ≡ record { count = 0; unknown = 0 }
      → Ran m t
  resets_all : is_accepted m t ≡ true → is_reset (effect_in m t) ≡ true → IsReset m.state t.operation → flag (stepped m t) ≡ 1 → Ran m t

step_ran : (m : Machine) (t : Timed) → Ran m t
unfolding stepped step_of accepted effect_of
step_ran m t = go (is_accepted m t) refl
  where
    by_effect : is_accepted m t ≡ true → eqb (code_of t.operation) 0 ≡ false → (e : Effect) → effect_in m t ≡ e → is_reset e ≡ false → Ran m t
    by_effect is code Keep f h = goes_on is (rw f) (rw f) code (rw (is, f))
    by_effect is code (Push new) f h = taken is f (rw (is, f))
    by_effect is code Clear f h = goes_on is (rw f) (rw f) code (rw (is, f))
    by_effect is code (ResetTo size) f h = never (cc)

    by_operation : is_accepted m t ≡ true → {o : Operation} → t.operation ≡ o → Resets o → Ran m t
    by_operation is e is_reset_lem = resets_all is (rw e) (rw e a_reset) (rw (is, e))
    by_operation is e (no_reset {o} code) =
        by_effect is (rw e code) (effect_in m t) refl
        (of_effect (λ x. is_reset x ≡ false) m.state (ran m t) refl refl (λ x. refl) t.operation (rw e code))

    go : (b : Bool) → is_accepted m t ≡ b → Ran m t
    go true e = by_operation e refl (resets t.operation)
    go false e = refuses e (rw e)

-- ---- the flag over several steps

flag_passed : (m : Machine) (t : Timed) → (ran m t).unknown ≡ cond (occasion m.state t.operation) 1 (flag m)
unfolding passed
flag_passed m t = refl

count_passed : (m : Machine) (t : Timed) → (ran m t).count ≡ min (m.state.running.count + t.cycles) cap
unfolding passed
count_passed m t = refl

-- A set flag stays set, and so does one on an occasion: until a record is made.
still_set : (m : Machine) (t : Timed) → flag m ≡ 1 → (ran m t).unknown ≡ 1
unfolding passed
still_set m t set = go (occasion m.state t.operation)
  where
    go : (o : Bool) → cond o 1 (flag m) ≡ 1
    go true = refl
    go false = set

now_set : (m : Machine) (t : Timed) → Occasion m.state t.operation → (ran m t).unknown ≡ 1
unfolding passed
now_set m t such = rw (is_occasion m.state such)

stays_set : (m : Machine) (list : List Timed) → how_many makes_record m list ≡ 0 → flag m ≡ 1 → flag (run m list) ≡ 1
unfolding how_many run
stays_set m [] none set = set
stays_set m (t ∷ list) none set =
    let (first, others) = none_does (makes_record m t) (how_many makes_record (stepped m t) list) none in
    stays_set (stepped m t) list others (go first (step_ran m t))
  where
    go : makes_record m t ≡ false → Ran m t → flag (stepped m t) ≡ 1
    go first (refuses no_step same) = rw same set
    go first (goes_on is push no_start code runs) = rw runs (still_set m t set)
    go first (taken is push runs) = never (cc (rw (is, push) at first))
    go first (resets_all is begins op one) = one

-- What sets the flag: an accepted operation that is no reset, on an occasion; or a reset.
module _ {Such : State → Operation → Type 0} (sets : (m : Machine) (t : Timed) → is_accepted m t ≡ true → makes_record m t ≡ false
    → Such m.state t.operation → flag (stepped m t) ≡ 1) where
  is_set_lem : {m : Machine} {list : List Timed} → Occurs Such m list → how_many makes_record m list ≡ 0 → flag (run m list) ≡ 1
  unfolding how_many run
  is_set_lem (now {m = m} {t = t} {list = list} is such) none =
      let (first, others) = none_does (makes_record m t) (how_many makes_record (stepped m t) list) none in
      stays_set (stepped m t) list others (sets m t is first such)
  is_set_lem (later {m = m} {t = t} {list = list} rest) none =
      is_set_lem rest (none_does (makes_record m t) (how_many makes_record (stepped m t) list) none).1

occasion_sets : (m : Machine) (t : Timed) → is_accepted m t ≡ true → makes_record m t ≡ false → Occasion m.state t.operation → flag (stepped m t) ≡ 1
occasion_sets m t is none such = go (step_ran m t)
  where
    go : Ran m t → flag (stepped m t) ≡ 1
    go (refuses no_step same) = never (cc)
    go (goes_on is push no_start code runs) = rw runs (now_set m t such)
    go (taken is push runs) = never (cc (rw (is, push) at none))
    go (resets_all is begins op one) = one

reset_code : {s : State} {o : Operation} → IsReset s o → eqb (code_of o) 0 ≡ true
reset_code a_reset = refl

reset_sets : (m : Machine) (t : Timed) → is_accepted m t ≡ true → makes_record m t ≡ false → IsReset m.state t.operation → flag (stepped m t) ≡ 1
reset_sets m t is none such = go (step_ran m t)
  where
    go : Ran m t → flag (stepped m t) ≡ 1
    go (refuses no_step same) = never (cc)
    go (goes_on is push no_start code runs) = never (cc (reset_code such))
    go (taken is push runs) = never (cc (rw (is, push) at none))
    go (resets_all is begins op one) = one

-- ---- where a set flag comes from

resets_push : (e : Effect) → is_reset e ≡ true → is_push e ≡ false
resets_push Keep h = refl
resets_push (Push new) h = never (cc)
resets_push Clear h = refl
resets_push (ResetTo size) h = refl

-- It was set at the start and no record was made; or something set it and then no record was made.
data Origin (m : Machine) (list : List Timed) : Type 0 where
  start : how_many makes_record m list ≡ 0 → flag m ≡ 1 → Origin m list
  since : (before after : List Timed) → list ≡ before ++ after → how_many makes_record (run m before) after ≡ 0
      → Occurs IsReset (run m before) after ⊎ Occurs Occasion (run m before) after
      → Origin m list

origin : (m : Machine) (list : List Timed) → flag (run m list) ≡ 1 → Origin m list
unfolding how_many run
origin m [] set = start refl set
origin m (t ∷ list) set = go (origin (stepped m t) list set)
  where
    quiet : makes_record m t ≡ false → how_many makes_record (stepped m t) list ≡ 0 → how_many makes_record m (t ∷ list) ≡ 0
    quiet none others = rw none (omega arith)

    step : Ran m t → how_many makes_record (stepped m t) list ≡ 0 → flag (stepped m t) ≡ 1 → Origin m (t ∷ list)
    step (refuses no_step same) others f = start (quiet (rw no_step) others) (rw same at f)
    step (goes_on is push no_start code runs) others f = passing (either (occasion m.state t.operation))
      where
        passing : (occasion m.state t.operation ≡ true) ⊎ (occasion m.state t.operation ≡ false)
            → Origin m (t ∷ list)
        passing (inl h) =
            since [] (t ∷ list) refl (quiet (rw (is, push)) others) (inr (now is (which_occasion m.state t.operation code h)))
        passing (inr h) = start (quiet (rw (is, push)) others) (rw (runs, flag_passed m t, h) at f)
    step (taken is push runs) others f = never (cc (ap (λ (r : Running). r.unknown) runs))
    step (resets_all is begins op one) others f = since [] (t ∷ list) refl (quiet (rw (is, resets_push (effect_in m t) begins)) others) (inl (now is op))

    go : Origin (stepped m t) list → Origin m (t ∷ list)
    go (start others f) = step (step_ran m t) others f
    go (since before after e none why) = since (t ∷ before) after (ap (λ (l : List Timed). t ∷ l) e) none why

-- ---- what a new record says of its count

record Says (u : Bool) (n : ℕ) (new : Record) : Type 0 where
  unknown : CCU new ≡ cond u 1 0
  count : CC new ≡ cond u 0 (encoded n)

says : (u : Bool) (n kind level mpred valid : ℕ) (new : Record) → new.inf ≡ packed (cond u 1 0) (cond u 0 (encoded n)) kind level mpred valid
    → Says u n new
says true n kind level mpred valid new e = record { unknown = omega arith; count = omega arith }
says false n kind level mpred valid new e =
    let small = encoded_fits n in record { unknown = omega arith; count = omega arith }

record_says : (s : State) (r : Running) (e : Event) → Says (count_unknown s r) r.count (record_of s r e)
unfolding record_of BRBINF
record_says s r e = says (count_unknown s r) r.count _ _ _ _ (record_of s r e) refl

made_says : (s : State) (r : Running) (o : Operation) → eqb (code_of o) 0 ≡ false → (new : Record) → effect_of s o r ≡ Push new
    → Says (count_unknown s r) r.count new
made_says s r =
    of_effect (λ e. (new : Record) → e ≡ Push new → Says (count_unknown s r) r.count new) s r (λ new h. never (cc)) (λ new h. never (cc))
    (λ e new h. let is : record_of s r e ≡ new = cc in rw is at (record_says s r e))

module _ (m : Machine) (t : Timed) (new : Record) (makes : effect_in m t ≡ Push new) where
  no_reset_makes : Resets t.operation → eqb (code_of t.operation) 0 ≡ false
  unfolding effect_of
  no_reset_makes r = go r refl
    where
      go : {o : Operation} → Resets o → t.operation ≡ o → eqb (code_of t.operation) 0 ≡ false
      go is_reset_lem e = never (cc (rw e at makes))
      go (no_reset code) e = rw e code

  its_count : Says (count_unknown m.state (ran m t)) (ran m t).count new
  its_count = made_says m.state (ran m t) t.operation (no_reset_makes (resets t.operation)) new makes

-- ---- unknown exactly then

occurs_more : {Such : State → Operation → Type 0} {m : Machine} {list : List Timed} (more : List Timed) → Occurs Such m list → Occurs Such m (list ++ more)
occurs_more more (now is such) = now is such
occurs_more more (later rest) = later (occurs_more more rest)

-- What occurs among some operations and one more occurs among them, or is that one.
occurs_last : {Such : State → Operation → Type 0} (m : Machine) (list : List Timed) (t : Timed) → Occurs Such m (list ++ (t ∷ []))
    → Occurs Such m list ⊎ Such (run m list).state t.operation
unfolding run
occurs_last m [] t (now is such) = inr such
occurs_last {Such = Such} m [] t (later rest) = elim rest [ ]
occurs_last m (x ∷ list) t (now is such) = inl (now is such)
occurs_last m (x ∷ list) t (later rest) = ⊎_elim (λ o. inl (later o)) (λ such. inr such) (occurs_last (stepped m x) list t rest)

-- The count is unknown by counting or by the flag.
unknown_if : (s : State) (r : Running) → (counting s ≡ false) ⊎ (r.unknown ≡ 1) → count_unknown s r ≡ true
unfolding count_unknown
unknown_if s r (inl off) = rw off (or_true (eqb r.unknown 1))
unknown_if s r (inr set) = rw (eq-eqb r.unknown 1 set)

unknown_by : (s : State) (r : Running) → count_unknown s r ≡ true → (counting s ≡ false) ⊎ (r.unknown ≡ 1)
unfolding count_unknown
unknown_by s r h = go (either (eqb r.unknown 1))
  where
    go : (eqb r.unknown 1 ≡ true) ⊎ (eqb r.unknown 1 ≡ false) → (counting s ≡ false) ⊎ (r.unknown ≡ 1)
    go (inl e) = inr (eqb-true r.unknown 1 e)
    go (inr e) = inl (not-true (counting s) (rw e at h))

-- CCU tells it.
told : {u : Bool} {n : ℕ} {new : Record} → Says u n new → CCU new ≡ 1 → u ≡ true
told {u} {new = new} says e = go u says.unknown
  where
    go : (u : Bool) → CCU new ≡ cond u 1 0 → u ≡ true
    go true h = refl
    go false h = absurd (omega arith)

-- A flag that is set from the start of a sequence from a reset on: no record was made since the reset.
since_start : {m : Machine} {list : List Timed} (t : Timed) → FromReset m list → how_many makes_record m list ≡ 0 → flag m ≡ 1 → CountUnknown m list t
unfolding run
since_start t unset none f = absurd (omega arith)
since_start t (reset {size = size} {v1p1 = v1p1} {cycles = cycles} {list = rest} e) none f =
    no_record [] (reset_with size v1p1 cycles ∷ rest) refl none (now e a_reset)

module _ {m : Machine} {list : List Timed} (from : FromReset m list) (t : Timed) (new : Record) (is : is_accepted (run m list) t ≡ true)
    (makes : effect_in (run m list) t ≡ Push new) where
  -- The flag that the record takes is set on an occasion of its own event, else as the operations before left it.
  none_in : how_many makes_record (run m list) [] ≡ 0
  unfolding how_many
  none_in = refl

  flag_why : (ran (run m list) t).unknown ≡ 1 → CountUnknown m list t
  flag_why set = go (either (occasion (run m list).state t.operation))
    where
      by_origin : Origin m list → CountUnknown m list t
      by_origin (start none f) = since_start t from none f
      by_origin (since before after e none (inl o)) = no_record before after e none o
      by_origin (since before after e none (inr o)) = on_occasion before after e none (occurs_more (t ∷ []) o)

      go : (occasion (run m list).state t.operation ≡ true)
          ⊎ (occasion (run m list).state t.operation ≡ false)
          → CountUnknown m list t
      go (inl h) =
          on_occasion list [] (sym (append-nil list)) none_in (now is (which_occasion (run m list).state t.operation (no_reset_makes (run m list) t new makes (resets t.operation)) h))
      go (inr h) = by_origin (origin m list (rw (flag_passed (run m list) t, h) at set))

  at_end_lem : (before after : List Timed) → list ≡ before ++ after → run (run m before) after ≡ run m list
  at_end_lem before after e = sym (run_parts m before after) ∙ ap (run m) (sym e)

  flag_set : CountUnknown m list t → (counting (run m list).state ≡ false) ⊎ ((ran (run m list) t).unknown ≡ 1)
  flag_set (counting_off h) = inl h
  flag_set (no_record before after e none o) =
      inr (still_set (run m list) t (rw (at_end_lem before after e) at (is_set_lem reset_sets o none)))
  flag_set (on_occasion before after e none o) =
      ⊎_elim (λ (among : Occurs Occasion (run m before) after). inr (still_set (run m list) t (rw (at_end_lem before after e) at (is_set_lem occasion_sets among none))))
      (λ (such : Occasion (run (run m before) after).state t.operation). inr (now_set (run m list) t (rw (at_end_lem before after e) at such)))
      (occurs_last (run m before) after t o)

-- A record's CCU is 1 exactly where counting is off, no record was made since the reset, or since the last record one of the listed occasions
-- happened.
pub unknown_exactly : {m : Machine} {list : List Timed} → FromReset m list → (t : Timed) (new : Record) → Makes (run m list) t new
    → (CCU new ≡ 1) ↔ CountUnknown m list t
unknown_exactly {m} {list} from t new (is, makes) =
    let says = its_count (run m list) t new makes in (
      λ e. ⊎_elim counting_off (flag_why from t new is makes) (unknown_by (run m list).state (ran (run m list) t) (told says e)),
      λ u. says.unknown ∙ rw (unknown_if (run m list).state (ran (run m list) t) (flag_set from t new is makes u)),
    )

-- ---- what a known count is

-- Where the last record was made: none was, and there was no reset; there was a reset after it; or there it is.
data Last (m : Machine) (list : List Timed) : Type 0 where
  none : how_many makes_record m list ≡ 0 → how_many restarts m list ≡ 0 → Last m list
  by_reset : (before after : List Timed) → list ≡ before ++ after → how_many makes_record (run m before) after ≡ 0
      → Occurs IsReset (run m before) after
      → Last m list
  by_record : (before after : List Timed) → SinceRecord m list before after → Last m list

last : (m : Machine) (list : List Timed) → Last m list
unfolding how_many run
last m [] = none refl refl
last m (t ∷ list) = go (last (stepped m t) list)
  where
    step : Ran m t → how_many makes_record (stepped m t) list ≡ 0 → how_many restarts (stepped m t) list ≡ 0 → Last m (t ∷ list)
    step (refuses not-it same) p q = none (rw not-it (omega arith)) (rw not-it (omega arith))
    step (goes_on is push no_start code runs) p q = none (rw (is, push) (omega arith)) (rw (is, no_start) (omega arith))
    step (taken {new = new} is push runs) p q =
        by_record (t ∷ []) list
        (record {
          whole = refl;
          last = new;
          event = record { earlier = []; event = t; ends = refl; makes = (is, push) };
          no_record = p;
          no_reset = q;
        })
    step (resets_all is begins op one) p q =
        by_reset [] (t ∷ list) refl (rw (is, resets_push (effect_in m t) begins) (omega arith)) (now is op)

    go : Last (stepped m t) list → Last m (t ∷ list)
    go (none p q) = step (step_ran m t) p q
    go (by_reset before after e p o) = by_reset (t ∷ before) after (ap (λ (l : List Timed). t ∷ l) e) p o
    go (by_record before after r) =
        by_record (t ∷ before) after
        (record {
          whole = ap (λ (l : List Timed). t ∷ l) r.whole;
          last = r.last;
          event = record {
            earlier = t ∷ r.event.earlier;
            event = r.event.event;
            ends = ap (λ (l : List Timed). t ∷ l) r.event.ends;
            makes = r.event.makes;
          };
          no_record = r.no_record;
          no_reset = r.no_reset;
        })

-- Where no record is made and no reset accepted, the running count takes the cycles of the accepted operations, and stops at the cap.
counts_on : (m : Machine) (list : List Timed) → how_many makes_record m list ≡ 0 → how_many restarts m list ≡ 0 → m.state.running.count ≤ cap
    → (run m list).state.running.count ≡ min (m.state.running.count + accepted_cycles m list) cap
unfolding how_many run accepted_cycles passed
counts_on m [] p q low = omega arith
counts_on m (t ∷ list) p q low =
    let (no-push, p') = none_does (makes_record m t) (how_many makes_record (stepped m t) list) p in
    let (no_start, q') = none_does (restarts m t) (how_many restarts (stepped m t) list) q in
    let one = step no-push no_start (step_ran m t) in
    omega (arith, one, counts_on (stepped m t) list p' q' (omega (arith, one)))
  where
    step : makes_record m t ≡ false → restarts m t ≡ false → Ran m t
        → (stepped m t).state.running.count ≡ min (m.state.running.count + cond (is_accepted m t) t.cycles 0) cap
    step a b (refuses not-it same) = rw (same, not-it) (omega arith)
    step a b (goes_on is push no_start code runs) = rw (runs, is)
    step a b (taken is push runs) = never (cc (rw (is, push) at a))
    step a b (resets_all is begins op one) = never (cc (rw (is, begins) at b))

cycles_more : (m : Machine) (list : List Timed) (t : Timed) → is_accepted (run m list) t ≡ true
    → accepted_cycles m (list ++ (t ∷ [])) ≡ accepted_cycles m list + t.cycles
unfolding accepted_cycles run
cycles_more m [] t is = rw is (omega arith)
cycles_more m (x ∷ list) t is = omega (arith, cycles_more (stepped m x) list t is)

-- Past the cap every count is encoded alike.
capped : (n : ℕ) → encoded (min n cap) ≡ encoded n
capped n =
    ⊎_elim (λ (high : largest_count < n). above (min n cap) (omega arith) ∙ sym (above n high))
    (λ (low : n ≤ largest_count). let e : min n cap ≡ n = omega arith in rw e) (below_or_not largest_count n)

-- A record that was just made has taken the running count.
just_taken : {m : Machine} {list : List Timed} {new : Record} → EndsMaking m list new → (run m list).state.running.count ≡ 0
unfolding run
just_taken {m} {list} e = go (step_ran (run m e.earlier) e.event)
  where
    at : run m list ≡ stepped (run m e.earlier) e.event
    at = ap (run m) e.ends ∙ run_parts m e.earlier (e.event ∷ [])

    go : Ran (run m e.earlier) e.event → (run m list).state.running.count ≡ 0
    go (refuses not-it same) = never (cc e.makes.0)
    go (goes_on is push no_start code runs) = never (cc (rw e.makes.1 at push))
    go (taken is push runs) = rw (at, runs)
    go (resets_all is begins op one) = never (cc (rw e.makes.1 at begins))

-- A record is made only where there is a size.
push_sized : (m : Machine) (t : Timed) (new : Record) → Makes m t new → 1 ≤ m.state.size
push_sized m t new (is, e) =
    go (allowed m.state (ran m t) (length m.room) t.operation (accepts_if m.state t.operation (length m.room) is)) e
  where
    go : {e : Effect} {after : ℕ} → Allowed m.state.size m.state.start (length m.room) (ran m t).count e after → e ≡ Push new → 1 ≤ m.state.size
    go keeps h = never (cc)
    go (pushes place fits takes) h = omega arith
    go (clears fits) h = never (cc)
    go (resets_to fits) h = never (cc)

-- Without a reset the size is as it was.
size_stays : (m : Machine) (list : List Timed) → how_many makes_record m list ≡ 0 → how_many restarts m list ≡ 0 → (run m list).state.size ≡ m.state.size
unfolding how_many run stepped step_of accepted
size_stays m [] p q = refl
size_stays m (t ∷ list) p q =
    let (no-push, p') = none_does (makes_record m t) (how_many makes_record (stepped m t) list) p in
    let (no_start, q') = none_does (restarts m t) (how_many restarts (stepped m t) list) q in
    size_stays (stepped m t) list p' q' ∙ step no-push no_start (step_ran m t)
  where
    step : makes_record m t ≡ false → restarts m t ≡ false → Ran m t → (stepped m t).state.size ≡ m.state.size
    step a b (refuses not-it same) = ap (λ (k : Machine). k.state.size) same
    step a b (goes_on is push no_start code runs) = rw is (size_kept m.state t.operation code)
    step a b (taken is push runs) = never (cc (rw (is, push) at a))
    step a b (resets_all is begins op one) = never (cc (rw (is, begins) at b))

-- In a sequence from a reset, a record needs a reset or a record before it.
not_none : {m : Machine} {list : List Timed} (t : Timed) (new : Record) → FromReset m list → Makes (run m list) t new → how_many makes_record m list ≡ 0
    → how_many restarts m list ≡ 0 → ⊥
unfolding how_many effect_of
not_none t new (unset {room = room} {list = list}) made p q =
    let m : Machine = record { state = fresh; room = room } in
    omega (arith, push_sized (run m list) t new made, size_stays m list p q)
not_none t new (reset e) made p q = absurd (omega (arith, rw e at q))

-- Where CCU is 0, there is a last record, and CC encodes the sum of the cycles of the accepted operations since then, this one included.
pub known_count : {m : Machine} {list : List Timed} → FromReset m list → (t : Timed) (new : Record) → Makes (run m list) t new → CCU new ≡ 0
    → (before : List Timed)
    × (after : List Timed)
    × SinceRecord m list before after
    × (CC new ≡ encoded (accepted_cycles (run m before) (after ++ (t ∷ []))))
known_count {m} {list} from t new made e = go (last m list)
  where
    end : Machine
    end = run m list

    says : Says (count_unknown end.state (ran end t)) (ran end t).count new
    says = its_count end t new made.1

    known : (u : Bool) {n : ℕ} → Says u n new → CC new ≡ encoded n
    known true s = absurd (omega (arith, s.unknown))
    known false s = s.count

    go : Last m list → (before : List Timed) × (after : List Timed) × SinceRecord m list before after
        × (CC new ≡ encoded (accepted_cycles (run m before) (after ++ (t ∷ []))))
    go (none p q) = absurd (not_none t new from made p q)
    go (by_reset before after w p o) = absurd (omega (arith, (unknown_exactly from t new made).1 (no_record before after w p o)))
    go (by_record before after r) =
        let at : run (run m before) after ≡ end = sym (run_parts m before after) ∙ ap (run m) (sym r.whole) in
        let at_zero : (run m before).state.running.count ≡ 0 = just_taken r.event in
        let counted = rw at at (counts_on (run m before) after r.no_record r.no_reset (omega arith)) in
        let all : List Timed = after ++ (t ∷ []) in
        let total : (ran end t).count ≡ min (accepted_cycles (run m before) all) cap = omega (arith, count_passed end t, counted, cycles_more (run m before) after t (rw at made.0)) in
        (before, after, r, known _ says ∙ ap encoded total ∙ capped (accepted_cycles (run m before) all))

-- An unknown count is CC 0.
pub unknown_zero : (m : Machine) (t : Timed) (new : Record) → Makes m t new → CCU new ≡ 1 → CC new ≡ 0
unknown_zero m t new made e =
    let says = its_count m t new made.1 in
    says.count ∙ rw (told says e)
