-- The records as a list, newest first, and their places in the room that the host lends. Document 01, "Which events become
-- records", last paragraph; document 02, Seven, which replaces its places: a record stays where it was written, and a starting
-- number says where the newest one is. docs/MANUAL.md, "Records" and "State and room".
use Rattle.std.specs.Prelude.{ℕ, zero, suc, ◌+◌, ◌*◌, ◌-◌, cond, ◌&&◌, List, [], ◌∷◌, ◌++◌, eqb, ltb, leb, length, get_or, take, drop, replicate}
use Rattle.room.specs.declared.Record.{Record}
use Rattle.room.specs.declared.Effect.{Effect}
use Rattle.room.specs.declared.Effect.TheVariants.{Keep, Push, Clear, ResetTo}

-- The record that a reset and BRB IALL leave: VALID is 0, so it is none.
abbrev pub zero_record : Record
zero_record = record { inf = 0; source = 0; target = 0 }

-- The record at place r of the room: three numbers, BRBINF, BRBSRC and BRBTGT. I_JBTBH.
abbrev pub placed : ℕ → List ℕ → Record
placed r room = record { inf = get_or room (3 * r) 0; source = get_or room (3 * r + 1) 0; target = get_or room (3 * r + 2) 0 }

-- The records of a room in the order of their places.
unfoldable pub in_place : ℕ → List ℕ → List Record
in_place zero room = []
in_place (suc size) room = placed 0 room ∷ in_place size (drop 3 room)

-- The records of a room, newest first: those from the start on, and then, going round, those before it.
unfoldable pub records : ℕ → ℕ → List ℕ → List Record
records size start room = drop start (in_place size room) ++ take start (in_place size room)

-- Record number r of the list; a zero record where there is none.
unfoldable pub numbered : ℕ → List Record → Record
numbered r list = get_or list r zero_record

-- How many numbers of the room so many records need (refusal 6).
abbrev pub needed : ℕ → ℕ
needed size = 3 * size

-- The place below a start, going round: the last place where the start is the first.
abbrev pub below : ℕ → ℕ → ℕ
below size start = cond (eqb start 0) size start - 1

-- The room with a record at place p: three numbers are its own, all others as they were.
abbrev pub written : ℕ → Record → List ℕ → List ℕ
written p new room = take (3 * p) room ++ (new.inf ∷ new.source ∷ new.target ∷ drop (3 * p + 3) room)

-- The room with one more record, at the place below the start; what stood there is gone, be it the oldest record or zero. A room
-- that is too short, which refusal 6 keeps away, is left alone, and so is one in which the start is no place (refusal 7), as it is
-- in one for no record (refusal 3).
unfoldable pub pushed : ℕ → ℕ → Record → List ℕ → List ℕ
pushed size start new room =
    cond (ltb start size && leb (needed size) (length room)) (written (below size start) new room) room

-- The room with every record zero. Numbers past the needed ones are as they were, and so is a room that is too short.
unfoldable pub cleared : ℕ → List ℕ → List ℕ
cleared size room = cond (leb (needed size) (length room)) (replicate (needed size) 0 ++ drop (needed size) room) room

-- The room after an effect, where size and start before it were the given ones; a reset brings its own size.
unfoldable pub room_after : ℕ → ℕ → Effect → List ℕ → List ℕ
room_after size start Keep room = room
room_after size start (Push new) room = pushed size start new room
room_after size start Clear room = cleared size room
room_after size start (ResetTo n) room = cleared n room

-- The start after it: a new record is the start, and after BRB IALL and a reset the first place is.
unfoldable pub start_after : ℕ → ℕ → Effect → ℕ
start_after size start Keep = start
start_after size start (Push new) = below size start
start_after size start Clear = 0
start_after size start (ResetTo n) = 0
