-- What the turns of the replay program do. What the operating system alone decides, which bytes come and whether lines are
-- taken, is left open; everything else is decided.
use Rattle.std.specs.Prelude.{◌≡◌, ℕ, ◌+◌, ◌≤◌, true, ◌≢◌, ◌⊎◌, List, length, Result, Err}
use Rattle.input.specs.Input as window
use Rattle.stream.specs.declared.Progress.{Progress}
use Rattle.stream.specs.declared.End.{End}
use Rattle.stream.specs.declared.End.TheVariants.{Damaged}
use Rattle.stream.specs.Stream.{standing, next as replayed, unread_of}

-- With the lines that waited gone out.
abbrev pub emptied : Progress → Progress
emptied p = record { state = p.state; window = p.window; used = 0 }

-- Lines went out, and the replay goes on or not; no damage is told of.
abbrev pub Writes : Progress → Result (Unit {0}) End → Progress → Type 0
Writes p outcome next = (next ≡ emptied p) × (outcome ≢ Err Damaged)

-- Where the replay stands once more of the input was asked for: state and lines are as they were, and the window is as an input's
-- that was asked for more.
pub record Brings (input : List ℕ) (p : Progress) (outcome : Result (Unit {0}) End) (after : List ℕ) (next : Progress) : Type 0 where
  pub state : next.state ≡ p.state
  pub used : next.used ≡ p.used
  pub window : window.Brings input p.window outcome after next.window

-- What a turn does, by the room, the input's buffer, the output's buffer and the standing before and after it: lines go out; or
-- more of the input is asked for; or the operation in front is replayed, where its line has room and where so many bytes are
-- unread as any operation can have, or all that are left.
pub data Turned (room input output : List ℕ) (p : Progress) (outcome : Result (Unit {0}) End) (room' input' output' : List ℕ) (next : Progress) : Type 0 where
  writes : room' ≡ room → input' ≡ input → Writes p outcome next → Turned room input output p outcome room' input' output' next
  reads : room' ≡ room → output' ≡ output → Brings input p outcome input' next → Turned room input output p outcome room' input' output' next
  replays : input' ≡ input → p.used + 32 ≤ length output → (60 ≤ length (unread_of input p)) ⊎ (p.window.ended ≡ true)
      → standing outcome next room' output' ≡ replayed room input output p
      → Turned room input output p outcome room' input' output' next
