-- The plain reading of a room, as document 01 has it: record r stands at place r, and a new record moves every other one up by one
-- place. Document 02, Seven, replaces it, and no function works so any more: what the round buffer shows is held against it
-- (`history.proofs.Plain`).
use Rattle.std.specs.Prelude.{ℕ, ◌-◌, cond, ◌&&◌, List, [], ◌∷◌, ◌++◌, leb, length, take, drop}
use Rattle.room.specs.declared.Record.{Record}
use Rattle.room.specs.declared.Effect.{Effect}
use Rattle.room.specs.declared.Effect.TheVariants.{Keep, Push, Clear, ResetTo}
use Rattle.room.specs.Room.{needed, cleared}
use Rattle.history.specs.History.{Timed, Machine, stepped, is_accepted, effect_in}

-- The room with one more record, at the front; what stood in the last place is gone. Numbers past the needed ones are as they
-- were. A room that is too short is left alone, and so is one for no record.
unfoldable pub shifted : ℕ → Record → List ℕ → List ℕ
shifted size new room =
    cond (leb 1 size && leb (needed size) (length room))
    (new.inf ∷ new.source ∷ new.target ∷ (take (needed size - 3) room ++ drop (needed size) room))
    room

-- A plain room after an effect, where the size before it was the given one.
unfoldable pub plain_after : ℕ → Effect → List ℕ → List ℕ
plain_after size Keep room = room
plain_after size (Push new) room = shifted size new room
plain_after size Clear room = cleared size room
plain_after size (ResetTo n) room = cleared n room

-- A plain room beside a machine, after one operation of the machine; a refused one leaves it as it was.
unfoldable pub plain_stepped : Machine → List ℕ → Timed → List ℕ
plain_stepped m plain t = cond (is_accepted m t) (plain_after m.state.size (effect_in m t) plain) plain

-- The same after one operation after another.
unfoldable pub plain_run : Machine → List ℕ → List Timed → List ℕ
plain_run m plain [] = plain
plain_run m plain (t ∷ list) = plain_run (stepped m t) (plain_stepped m plain t) list
