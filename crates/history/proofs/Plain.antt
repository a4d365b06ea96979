-- Request Seven over sequences: the round buffer shows the records that the plain reading of document 01 shows, after any sequence from
-- a reset, and so answers every read alike.
use Prim.Native.Nat.{ℕ, zero, suc, ◌-◌, ◌≤◌}
use native.Mathlib.Omega.{arith}
use mathlib.Core.Path.{◌≡◌, refl, sym, ap, ◌∙◌}
use mathlib.Core.Bool.{Bool, true, false}
use mathlib.Core.List.{List, [], ◌∷◌, ◌++◌}
use lib.ListN.{length, take, drop, replicate, length-append, length-drop}
use lib.Seq.{length-take-le}
use borrow.Author.Tests.{le-leb}
use Rattle.state.specs.declared.State.{State}
use Rattle.state.specs.declared.Running.{Running}
use Rattle.room.specs.declared.Record.{Record}
use Rattle.room.specs.declared.Effect.{Effect}
use Rattle.room.specs.declared.Effect.TheVariants.{Clear, ResetTo}
use Rattle.room.specs.Room.{zero_record, placed, in_place, records, needed, cleared, room_after, start_after}
use Rattle.room.proofs.Laws.{three, places_zeros, after_push, after_clear, after_reset_lem, length-room_after}
use Rattle.operation.specs.declared.Operation.{Operation}
use Rattle.operation.specs.declared.Operation.TheVariants.{Reset}
use Rattle.operation.specs.Clause.{does, changed}
use Rattle.operation.proofs.Laws.{accepts_if}
use Rattle.change.specs.Change.{passed, effect_of, answer_of}
use Rattle.recorder.specs.Step.{accepted, step_of}
use Rattle.history.specs.History.{Timed, Machine, stepped, run, shown, is_accepted, FromReset, reset, unset}
use Rattle.history.specs.Plain.{shifted, plain_after, plain_stepped, plain_run}
use Rattle.history.proofs.Allowed.{Allowed, keeps, pushes, clears, resets_to, allowed}

-- ---- the plain reading after an effect

take_places : (n : ℕ) (room : List ℕ) → take n (in_place (suc n) room) ≡ in_place n room
unfolding in_place
take_places zero room = refl
take_places (suc n) room = ap (λ (l : List Record). placed 0 room ∷ l) (take_places n (drop 3 room))

-- The first n records are those of the first 3n numbers.
places_front : (n : ℕ) (room rest : List ℕ) → needed n ≤ length room → in_place n (take (needed n) room ++ rest) ≡ in_place n room
unfolding in_place
places_front zero room rest h = refl
places_front (suc n) [] rest h = absurd (omega arith)
places_front (suc n) (a ∷ []) rest h = absurd (omega arith)
places_front (suc n) (a ∷ b ∷ []) rest h = absurd (omega arith)
places_front (suc n) (a ∷ b ∷ c ∷ room) rest h =
    rw (three n) (ap (λ (l : List Record). placed 0 (a ∷ b ∷ c ∷ room) ∷ l) (places_front n room rest (omega arith)))

places_shifted : (size : ℕ) (new : Record) (room : List ℕ) → 1 ≤ size → needed size ≤ length room
    → in_place size (shifted size new room) ≡ new ∷ take (size - 1) (in_place size room)
unfolding in_place shifted
places_shifted zero new room one fits = absurd (omega arith)
places_shifted (suc n) new room one fits =
    let back : needed (suc n) - 3 ≡ needed n = omega arith in
    let less : suc n - 1 ≡ n = omega arith in
    rw (less, le-leb 1 (suc n) one, le-leb (needed (suc n)) (length room) fits, back)
    (ap (λ (l : List Record). new ∷ l) (places_front n room (drop (needed (suc n)) room) (omega arith) ∙ sym (take_places n room)))

places_cleared : (size : ℕ) (room : List ℕ) → needed size ≤ length room → in_place size (cleared size room) ≡ replicate size zero_record
unfolding cleared
places_cleared size room fits = rw (le-leb (needed size) (length room) fits) (places_zeros size (drop (needed size) room))

-- ---- the two beside each other

-- What is kept: the machine shows the plain room's records, and the two rooms are equally long.
record Alike (m : Machine) (plain : List ℕ) : Type 0 where
  shows : shown m ≡ in_place m.state.size plain
  long : length plain ≡ length m.room

after_effect : {size start running after : ℕ} {e : Effect} (room plain : List ℕ) → Allowed size start (length room) running e after
    → records size start room ≡ in_place size plain → length plain ≡ length room
    → records after (start_after size start e) (room_after size start e room) ≡ in_place after (plain_after size e plain)
unfolding room_after start_after plain_after
after_effect room plain keeps same long = same
after_effect {size} {start} room plain (pushes {new = new} place fits takes) same long =
    after_push size start new room place fits
    ∙ ap (λ (l : List Record). new ∷ take (size - 1) l) same
    ∙ sym (places_shifted size new plain (omega arith) (omega arith))
after_effect {size} {start} room plain (clears fits) same long = after_clear size start room fits ∙ sym (places_cleared size plain (omega arith))
after_effect {size} {start} room plain (resets_to {n = n} fits) same long = after_reset_lem size start n room fits ∙ sym (places_cleared n plain (omega arith))

-- An effect leaves a plain room as long as it was.
length-shifted : (size : ℕ) (new : Record) (room : List ℕ) → 1 ≤ size → needed size ≤ length room → length (shifted size new room) ≡ length room
unfolding shifted
length-shifted size new room one fits =
    let front = take (needed size - 3) room in
    rw (le-leb 1 size one, le-leb (needed size) (length room) fits)
    (omega (arith, length-append front (drop (needed size) room), length-take-le (needed size - 3) room (omega arith), length-drop (needed size) room))

length-after : {size start running after : ℕ} {e : Effect} (room plain : List ℕ) → Allowed size start (length room) running e after
    → length plain ≡ length room → length (plain_after size e plain) ≡ length plain
unfolding plain_after room_after
length-after room plain keeps long = refl
length-after {size} room plain (pushes {new = new} place fits takes) long = length-shifted size new plain (omega arith) (omega arith)
length-after {size} room plain (clears fits) long = length-room_after size 0 Clear plain
length-after {size} room plain (resets_to {n = n} fits) long = length-room_after size 0 (ResetTo n) plain

alike_step : (m : Machine) (plain : List ℕ) (t : Timed) → Alike m plain → Alike (stepped m t) (plain_stepped m plain t)
unfolding stepped step_of accepted plain_stepped
alike_step m plain t a = go (is_accepted m t) refl
  where
    s : State
    s = m.state

    r : Running
    r = passed s t.operation t.cycles

    go : (b : Bool) → is_accepted m t ≡ b → Alike (stepped m t) (plain_stepped m plain t)
    go true e =
        let can = allowed s r (length m.room) t.operation (accepts_if s t.operation (length m.room) e) in
        rw e
        (record {
          shows = after_effect m.room plain can a.shows a.long;
          long = length-after m.room plain can a.long ∙ a.long ∙ sym (length-room_after s.size s.start (effect_of s t.operation r) m.room);
        })
    go false e = rw e a

alike_run : (m : Machine) (plain : List ℕ) (list : List Timed) → Alike m plain → Alike (run m list) (plain_run m plain list)
unfolding run plain_run
alike_run m plain [] a = a
alike_run m plain (t ∷ list) a = alike_run (stepped m t) (plain_stepped m plain t) list (alike_step m plain t a)

-- ---- sequences from a reset

-- The first operation of such a sequence makes them alike, whatever the plain room held, if it is as long as the machine's.
alike : {m : Machine} {list : List Timed} (plain : List ℕ) → FromReset m list → length plain ≡ length m.room → Alike (run m list) (plain_run m plain list)
unfolding run plain_run stepped step_of accepted plain_stepped effect_of changed room_after start_after plain_after in_place records
alike plain (unset {list = list}) long = alike_run _ plain list (record { shows = refl; long = long })
alike plain (reset {m = m} {size = size} {v1p1 = v1p1} {list = list} e) long =
    let fits : needed size ≤ length m.room = (accepts_if m.state (Reset size v1p1) (length m.room) e).room_enough in
    let cleared-room = length-room_after size 0 (ResetTo size) m.room in
    let cleared-plain = length-room_after size 0 (ResetTo size) plain in
    alike_run _ _ list
    (rw e
    (record {
      shows = after_reset_lem m.state.size m.state.start size m.room fits ∙ sym (places_cleared size plain (omega arith));
      long = cleared-plain ∙ long ∙ sym cleared-room;
    }))

-- After any sequence from a reset the round buffer shows exactly the records that the plain reading shows.
pub same_list : (m : Machine) (plain : List ℕ) (list : List Timed) → FromReset m list → length plain ≡ length m.room
    → shown (run m list) ≡ in_place (run m list).state.size (plain_run m plain list)
same_list m plain list from long = (alike plain from long).shows

-- So whatever is then accepted answers what it would answer by the plain reading.
pub same_answer : (m : Machine) (plain : List ℕ) (list : List Timed) → FromReset m list → length plain ≡ length m.room → (o : Operation)
    → answer_of (run m list).state o (run m list).room
    ≡ (does (run m list).state o).answers (in_place (run m list).state.size (plain_run m plain list))
unfolding answer_of
same_answer m plain list from long o = ap (does (run m list).state o).answers (same_list m plain list from long)
