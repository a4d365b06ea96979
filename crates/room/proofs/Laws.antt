-- What an effect does to the list of records and to the room's other numbers. Whatever stands above the room cites these
-- laws and never looks at a place in it. Those on the order of places go by induction on the size, three numbers a turn; those on
-- the list are laws of lists.
use Prim.Native.Nat.{ℕ, zero, suc, ◌+◌, ◌*◌, ◌-◌, ◌/◌, ◌≤◌, ◌<◌}
use native.Mathlib.Nat.{add-zero, add_assoc}
use native.Mathlib.Omega.{arith}
use mathlib.Core.Path.{◌≡◌, refl, sym, ap, ◌∙◌}
use mathlib.Core.Bool.{Bool, true, false, cond, ◌&&◌}
use mathlib.Core.Logic.{⊎_elim}
use mathlib.Core.List.{List, [], ◌∷◌, ◌++◌, append-nil}
use lib.Dec.{leb, ltb}
use lib.ListN.{length, get_or, take, drop, replicate, length-append, length-take, length-drop, length-replicate, drop_of_length-le, get_or-append, get_or-eq_default}
use lib.Seq.{length-take-le, length_front, take_at, drop_at, get_or-take, get_or-drop, get_or-append-add, take-append-add, drop-append-add, take-take, drop-drop}
use borrow.Author.Tests.{ne_eqb, le-leb, le-ltb, lt-ltb, leb-true, ltb-true}
use Rattle.bits.proofs.Cases.{below_or_not}
use Rattle.bits.proofs.Each.{first, second}
use Rattle.room.specs.declared.Record.{Record}
use Rattle.room.specs.declared.Effect.{Effect}
use Rattle.room.specs.declared.Effect.TheVariants.{Keep, Push, Clear, ResetTo}
use Rattle.room.specs.Room.{zero_record, placed, in_place, records, numbered, needed, below, written, pushed, cleared, room_after, start_after}

-- A third of the room is below a size exactly when the room is below what the size needs: a test that cannot overflow.
pub third_below : (numbers size : ℕ) → ltb (numbers / 3) size ≡ ltb numbers (needed size)
third_below numbers size =
    ⊎_elim (λ h. rw (lt-ltb numbers (needed size) h) (lt-ltb (numbers / 3) size (omega arith)))
    (λ h. rw (le-ltb numbers (needed size) h) (le-ltb (numbers / 3) size (omega arith)))
    (below_or_not numbers (needed size))

pub three : (n : ℕ) → needed (suc n) ≡ suc (suc (suc (needed n)))
three n = omega arith

length_places : (size : ℕ) (room : List ℕ) → length (in_place size room) ≡ size
unfolding in_place
length_places zero room = refl
length_places (suc size) room = ap suc (length_places size (drop 3 room))

pub length-records : (size start : ℕ) (room : List ℕ) → length (records size start room) ≡ size
unfolding records
length-records size start room =
    let list = in_place size room in
    omega (arith, length-append (drop start list) (take start list), length-drop start list, length-take start list, length_places size room)

placed_up : (r : ℕ) (room : List ℕ) → placed r (drop 3 room) ≡ placed (suc r) room
placed_up r room =
    let e : 3 * suc r ≡ 3 + 3 * r = omega arith in
    simp (get_or-drop, e, add_assoc)

at_place : (size p : ℕ) (room : List ℕ) → p < size → get_or (in_place size room) p zero_record ≡ placed p room
unfolding in_place
at_place zero p room h = absurd (omega arith)
at_place (suc size) zero room h = refl
at_place (suc size) (suc p) room h = at_place size p (drop 3 room) (omega arith) ∙ placed_up p room

-- ---- where record r stands

-- Of the records from the start on, one that is not past them; of the others, so many past the first place.
pub record_number : (size start r : ℕ) (room : List ℕ)
    → numbered r (records size start room) ≡ cond (ltb r size) (placed (cond (ltb r (size - start)) (start + r) (r - (size - start))) room) zero_record
unfolding records numbered
record_number size start r room = ⊎_elim inside (λ (past : size ≤ r). rw (le-ltb r size past) (get_or-eq_default (front ++ back) zero_record (omega (arith, both)))) (below_or_not r size)
  where
    front : List Record
    front = drop start (in_place size room)

    back : List Record
    back = take start (in_place size room)

    left : length front ≡ size - start
    left = omega (arith, length-drop start (in_place size room), length_places size room)

    both : length (front ++ back) ≡ size
    both = length-records size start room

    at : ℕ → Record
    at n = get_or (front ++ back) n zero_record

    behind : (n : ℕ) → n < start → n < size → get_or (front ++ back) (size - start + n) zero_record ≡ placed n room
    behind n h k =
        rw (← left) (get_or-append-add front back n zero_record)
        ∙ get_or-take start (in_place size room) n zero_record h
        ∙ at_place size n room k

    inside : r < size → at r ≡ cond (ltb r size) (placed (cond (ltb r (size - start)) (start + r) (r - (size - start))) room) zero_record
    inside h =
        rw (lt-ltb r size h)
        (⊎_elim (λ (near : r < size - start).
        rw (lt-ltb r (size - start) near)
        (get_or-append front back zero_record r (omega (arith, left)) ∙ get_or-drop start (in_place size room) r zero_record ∙ at_place size (start + r) room (omega arith)))
        (λ (far : size - start ≤ r).
        let n : ℕ = r - (size - start) in
        let whole : size - start + n ≡ r = omega arith in
        rw (le-ltb r (size - start) far) (ap at (sym whole) ∙ behind n (omega arith) (omega arith)))
        (below_or_not r (size - start)))

-- Document 02's words: record r is so many places on from the start, less the size where that is not below it.
pub stands : (size start r : ℕ) (room : List ℕ) → start < size → r < size
    → numbered r (records size start room) ≡ placed (cond (ltb (start + r) size) (start + r) (start + r - size)) room
stands size start r room s h =
    record_number size start r room
    ∙ rw (lt-ltb r size h)
    (⊎_elim (λ (near : start + r < size). rw (lt-ltb (start + r) size near, lt-ltb r (size - start) (omega arith)))
    (λ (far : size ≤ start + r).
    let same : r - (size - start) ≡ start + r - size = omega arith in
    rw (le-ltb (start + r) size far, le-ltb r (size - start) (omega arith), same))
    (below_or_not (start + r) size))

-- ---- a new record

below_next : (size p : ℕ) → below size (suc p) ≡ p
below_next size p = rw (ne_eqb (suc p) 0 (omega arith)) (omega arith)

pub below_place : (size start : ℕ) → start < size → below size start < size
below_place size zero h = omega arith
below_place size (suc p) h = rw (below_next size p) (omega arith)

-- Its three numbers are those of one place; of the list in the order of places one record is another.
places_written : (size p : ℕ) (new : Record) (room : List ℕ) → p < size → needed size ≤ length room
    → in_place size (written p new room) ≡ take p (in_place size room) ++ (new ∷ drop (suc p) (in_place size room))
unfolding in_place
places_written zero p new room h fits = absurd (omega arith)
places_written (suc size) zero new room h fits = refl
places_written (suc size) (suc p) new [] h fits = absurd (omega arith)
places_written (suc size) (suc p) new (a ∷ []) h fits = absurd (omega arith)
places_written (suc size) (suc p) new (a ∷ b ∷ []) h fits = absurd (omega arith)
places_written (suc size) (suc p) new (a ∷ b ∷ c ∷ room) h fits =
    let on : 3 * suc p + 3 ≡ suc (suc (suc (3 * p + 3))) = omega arith in
    rw (on, three p) (ap (λ (l : List Record). placed 0 (a ∷ b ∷ c ∷ room) ∷ l) (places_written size p new room (omega arith) (omega arith)))

-- From that place on, going round: the new record, those behind its place, those before it.
from_written : (p : ℕ) (new : Record) (list : List Record) → p < length list
    → drop p (take p list ++ (new ∷ drop (suc p) list)) ++ take p (take p list ++ (new ∷ drop (suc p) list)) ≡ new ∷ (drop (suc p) list ++ take p list)
from_written p new list h =
    let e = length-take-le p list (omega arith) in
    rw (drop_at (take p list) (new ∷ drop (suc p) list) p e, take_at (take p list) (new ∷ drop (suc p) list) p e)

-- What is left of the list from a start on, going round, without its last record.
all_but_last : (size start : ℕ) (list : List Record) → start < size → length list ≡ size
    → drop (suc (below size start)) list ++ take (below size start) list ≡ take (size - 1) (drop start list ++ take start list)
all_but_last size zero list h e =
    let whole : suc (size - 1) ≡ size = omega arith in
    rw (whole, drop_of_length-le list {i = size} (omega arith), append-nil list)
all_but_last size (suc p) list h e =
    let front = drop (suc p) list in
    let long : size - 1 ≡ length front + p = omega (arith, length-drop (suc p) list) in
    rw (below_next size p, long, take-append-add front (take (suc p) list) p, take-take p (suc p) list (omega arith))

-- A new record stands in front of the list, and the last one falls off.
records-pushed : (size start : ℕ) (new : Record) (room : List ℕ) → start < size → needed size ≤ length room
    → records size (below size start) (pushed size start new room) ≡ new ∷ take (size - 1) (records size start room)
unfolding records pushed
records-pushed size start new room h fits =
    let list = in_place size room in
    let p = below size start in
    rw (lt-ltb start size h, le-leb (needed size) (length room) fits, places_written size p new room (below_place size start h) fits)
    (from_written p new list (omega (arith, length_places size room, below_place size start h))
    ∙ ap (λ (l : List Record). new ∷ l) (all_but_last size start list h (length_places size room)))

-- ---- no record

pub places_zeros : (n : ℕ) (rest : List ℕ) → in_place n (replicate (needed n) 0 ++ rest) ≡ replicate n zero_record
unfolding in_place
places_zeros zero rest = refl
places_zeros (suc n) rest = rw (three n) (ap (λ (l : List Record). zero_record ∷ l) (places_zeros n rest))

records-cleared : (size : ℕ) (room : List ℕ) → needed size ≤ length room → records size 0 (cleared size room) ≡ replicate size zero_record
unfolding records cleared
records-cleared size room fits =
    rw (le-leb (needed size) (length room) fits, places_zeros size (drop (needed size) room)) (append-nil (replicate size zero_record))

-- ---- the list after an effect: a new record stands in front and the oldest is gone, or every record is zero

pub after_push : (size start : ℕ) (new : Record) (room : List ℕ) → start < size → needed size ≤ length room
    → records size (start_after size start (Push new)) (room_after size start (Push new) room) ≡ new ∷ take (size - 1) (records size start room)
unfolding room_after start_after
after_push size start new room h fits = records-pushed size start new room h fits

pub after_clear : (size start : ℕ) (room : List ℕ) → needed size ≤ length room
    → records size (start_after size start Clear) (room_after size start Clear room) ≡ replicate size zero_record
unfolding room_after start_after
after_clear size start room fits = records-cleared size room fits

pub after_reset_lem : (size start n : ℕ) (room : List ℕ) → needed n ≤ length room
    → records n (start_after size start (ResetTo n)) (room_after size start (ResetTo n) room) ≡ replicate n zero_record
unfolding room_after start_after
after_reset_lem size start n room fits = records-cleared n room fits

-- ---- the room's other numbers

-- A push writes exactly three numbers: those at its place are the new record's, those before and past them are as they were.
pub record OnlyAt (p : ℕ) (new : Record) (room after : List ℕ) : Type 0 where
  pub there : placed p after ≡ new
  pub before : take (3 * p) after ≡ take (3 * p) room
  pub past : drop (3 * p + 3) after ≡ drop (3 * p + 3) room

only_at : (p : ℕ) (new : Record) (room : List ℕ) → 3 * p + 3 ≤ length room → OnlyAt p new room (written p new room)
only_at p new room h =
    let front = take (3 * p) room in
    let e : length front ≡ 3 * p = length-take-le (3 * p) room (omega arith) in
    let rest = drop (3 * p + 3) room in
    let its : (n : ℕ) → get_or (written p new room) (length front + n) 0 ≡ get_or (new.inf ∷ new.source ∷ new.target ∷ rest) n 0 =
    λ n. get_or-append-add front (new.inf ∷ new.source ∷ new.target ∷ rest) n 0 in
    let first_one : get_or (written p new room) (3 * p) 0 ≡ new.inf = ap (λ (k : ℕ). get_or (written p new room) k 0) (sym (add-zero (3 * p))) ∙ (rw e at (its 0)) in
    record {
      there = rw (first_one, rw e at (its 1), rw e at (its 2));
      before = take_at front (new.inf ∷ new.source ∷ new.target ∷ rest) (3 * p) e;
      past = rw e at (drop-append-add front (new.inf ∷ new.source ∷ new.target ∷ rest) 3);
    }

pub three_numbers : (size start : ℕ) (new : Record) (room : List ℕ) → start < size → needed size ≤ length room
    → OnlyAt (below size start) new room (pushed size start new room)
unfolding pushed
three_numbers size start new room h fits =
    rw (lt-ltb start size h, le-leb (needed size) (length room) fits) (only_at (below size start) new room (omega (arith, below_place size start h)))

-- An effect replaces at most the first n numbers: the length and what is past them are as they were.
abbrev Kept : ℕ → List ℕ → List ℕ → Type 0
Kept n room after = (length after ≡ length room) × (drop n after ≡ drop n room)

kept_if : (n : ℕ) (room after : List ℕ) (t : Bool) → (t ≡ true → Kept n room after) → Kept n room (cond t after room)
kept_if n room after false h = (refl, refl)
kept_if n room after true h = h refl

kept_written : (size p : ℕ) (new : Record) (room : List ℕ) → p < size → needed size ≤ length room → Kept (needed size) room (written p new room)
kept_written size p new room h fits =
    let after = written p new room in
    let up_to : ℕ = 3 * p + 3 in
    let rest : ℕ = needed size - up_to in
    let whole : up_to + rest ≡ needed size = omega arith in
    let long = length-append (take (3 * p) room) (new.inf ∷ new.source ∷ new.target ∷ drop up_to room) in (
      omega (arith, long, length-take-le (3 * p) room (omega arith), length-drop up_to room),
      rw (← whole) (sym (drop-drop rest up_to after) ∙ ap (drop rest) (only_at p new room (omega arith)).past ∙ drop-drop rest up_to room),
    )

kept_pushed : (size start : ℕ) (new : Record) (room : List ℕ) → Kept (needed size) room (pushed size start new room)
unfolding pushed
kept_pushed size start new room =
    kept_if (needed size) room (written (below size start) new room) (ltb start size && leb (needed size) (length room))
    (λ e.
    let h : start < size = ltb-true start size (first (ltb start size) (leb (needed size) (length room)) e) in
    let fits : needed size ≤ length room = leb-true (needed size) (length room) (second (ltb start size) (leb (needed size) (length room)) e) in
    kept_written size (below size start) new room (below_place size start h) fits)

kept_cleared : (size : ℕ) (room : List ℕ) → Kept (needed size) room (cleared size room)
unfolding cleared
kept_cleared size room =
    kept_if (needed size) room (replicate (needed size) 0 ++ drop (needed size) room) (leb (needed size) (length room))
    (λ t.
    let fits : needed size ≤ length room = leb-true (needed size) (length room) t in
    let e : length (replicate (needed size) 0) ≡ needed size = length-replicate (needed size) 0 in
    (length_front room (replicate (needed size) 0) (needed size) (e ∙ sym (length-take-le (needed size) room fits)), drop_at (replicate (needed size) 0) (drop (needed size) room) (needed size) e))

-- The size after an effect: a reset brings its own.
abbrev pub size_after_effect : ℕ → Effect → ℕ
size_after_effect size Keep = size
size_after_effect size (Push r) = size
size_after_effect size Clear = size
size_after_effect size (ResetTo n) = n

kept_after : (size start : ℕ) (e : Effect) (room : List ℕ) → Kept (needed (size_after_effect size e)) room (room_after size start e room)
unfolding room_after
kept_after size start Keep room = (refl, refl)
kept_after size start (Push new) room = kept_pushed size start new room
kept_after size start Clear room = kept_cleared size room
kept_after size start (ResetTo n) room = kept_cleared n room

pub length-room_after : (size start : ℕ) (e : Effect) (room : List ℕ) → length (room_after size start e room) ≡ length room
length-room_after size start e room = (kept_after size start e room).0

-- Numbers past the needed ones are as they were.
pub past : (size start : ℕ) (e : Effect) (room : List ℕ)
    → drop (needed (size_after_effect size e)) (room_after size start e room) ≡ drop (needed (size_after_effect size e)) room
past size start e room = (kept_after size start e room).1

-- Two cases, with a number past the needed room: the place below the start, and from the first place round to the last.
examples : (pushed 2 1 (record { inf = 7; source = 8; target = 9 }) (1 ∷ 2 ∷ 3 ∷ 4 ∷ 5 ∷ 6 ∷ 42 ∷ []) ≡ 7 ∷ 8 ∷ 9 ∷ 4 ∷ 5 ∷ 6 ∷ 42 ∷ [])
    × (pushed 2 0 (record { inf = 7; source = 8; target = 9 }) (1 ∷ 2 ∷ 3 ∷ 4 ∷ 5 ∷ 6 ∷ 42 ∷ []) ≡ 1 ∷ 2 ∷ 3 ∷ 7 ∷ 8 ∷ 9 ∷ 42 ∷ [])
unfolding pushed
examples = (refl, refl)
