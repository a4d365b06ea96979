-- A replay whose input comes in pieces (house): what its turns print, one after another. docs/MANUAL.md, "Programs".
use Rattle.std.specs.Prelude.{ℕ, suc, ◌≤◌, ◌<◌, ◌≡◌, true, false, ◌⊎◌, List, [], ◌++◌, length, drop}
use Rattle.state.specs.declared.State.{State}
use Rattle.recording.specs.RecordedStep.{Recorded, recorded_step, stops_reading}
use Rattle.line.specs.Line.{line_of}

-- Enough unread bytes for any operation, which has six numbers of ten bytes at most; or all that are left, since none is still
-- to come.
abbrev pub Enough : List ℕ → List ℕ → Type 0
Enough unread input = (60 ≤ length unread) ⊎ (input ≡ [])

-- The turns of a replay that stands at a state and a room, with bytes unread, and prints `lines` while `input` comes. A turn
-- brings a piece of the input, of a byte or of many, or replays the operation in front of the unread bytes; the replay ends at
-- the end of the input, or where reading stops.
pub data Turns : State → List ℕ → List ℕ → List ℕ → List ℕ → Type 0 where
  brings : {s : State} {room unread lines input : List ℕ} (piece : List ℕ) → 0 < length piece
      → Turns s room (unread ++ piece) lines input
      → Turns s room unread lines (piece ++ input)
  replays : {s : State} {room unread lines input : List ℕ} {r : Recorded} → r ≡ recorded_step s room unread 0 → 0 < length unread
      → Enough unread input
      → stops_reading r.result.answer ≡ false
      → Turns r.result.state r.result.room (drop r.next unread) lines input
      → Turns s room unread (line_of r.result.answer ++ lines) input
  stops : {s : State} {room unread input : List ℕ} {r : Recorded} → r ≡ recorded_step s room unread 0 → 0 < length unread
      → Enough unread input
      → stops_reading r.result.answer ≡ true
      → Turns s room unread (line_of r.result.answer) input
  ends : {s : State} {room : List ℕ} → Turns s room [] [] []

-- How many turns there are, the one that ends the replay included.
unfoldable pub turn_count : {s : State} {room unread lines input : List ℕ} → Turns s room unread lines input → ℕ
turn_count (brings piece some more) = suc (turn_count more)
turn_count (replays is some enough goes more) = suc (turn_count more)
turn_count (stops is some enough stop) = 1
turn_count ends = 1
