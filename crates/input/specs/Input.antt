-- An input that comes in pieces through a buffer: what of it was read, and one operation of it. docs/MANUAL.md, "Programs".
use Rattle.std.specs.Prelude.{◌≡◌, ℕ, ◌+◌, ◌-◌, ◌%◌, ◌^◌, ◌<◌, min, Bool, true, false, cond, not, ◌&&◌, ◌==◌, nat_lt, List, [], ◌++◌, length, take, drop, Result, Ok, Err}
use Rattle.recording.specs.declared.Passage.{Passage}
use Rattle.recording.specs.Recording.{Reading}
use Rattle.input.specs.declared.Window.{Window}
use Rattle.input.specs.declared.Stop.{Stop}
use Rattle.input.specs.declared.Stop.TheVariants.{Ended, Damaged}

-- Before the first byte.
abbrev pub begun : Window
begun = record { start = 0; end = 0; before = 0; operations = 0; ended = false }

-- The bytes of the buffer that were read and are not yet passed.
abbrev pub unread_of : List ℕ → Window → List ℕ
unread_of bytes w = drop w.start (take w.end bytes)

-- After a read that brought so many bytes behind the `left` that are kept: the bytes before them are passed.
abbrev pub refilled_at : Window → ℕ → ℕ → Bool → Window
refilled_at w left came ended =
    record { start = 0; end = min (left + came) 65536; before = (w.before + w.start) % 2 ^ 64; operations = w.operations; ended = ended }

-- Behind so many operations, which are counted.
abbrev pub passed_at : ℕ → ℕ → Window → Window
passed_at next count w = record { start = next; end = w.end; before = w.before; operations = (w.operations + count) % 2 ^ 64; ended = w.ended }

-- At a bad number.
abbrev pub damaged_at : ℕ → Window → Window
damaged_at at w = record { start = at; end = w.end; before = w.before; operations = w.operations; ended = w.ended }

-- A window, and whether there may be more to read, or why there is not.
pub record Standing : Type 0 where
  pub outcome : Result (Unit {0}) Stop
  pub window : Window

-- The two, together.
abbrev pub standing : Result (Unit {0}) Stop → Window → Standing
standing outcome w = record { outcome = outcome; window = w }

-- After what was read: a bad number ends it.
abbrev pub after : Reading → Window → Standing
after (Ok (x, next)) w = standing (Ok tt) (passed_at next 1 w)
after (Err d) w = standing (Err (Damaged d.refusal)) (damaged_at d.at w)

-- The byte of the input at which it stands.
abbrev pub place_of : Window → ℕ
place_of w = (w.before + w.start) % 2 ^ 64

-- Whether more is read first: fewer bytes are left than the longest operation has, and the input has not ended.
abbrev pub needs_more : Window → Bool
needs_more w = nat_lt (w.end - w.start) 60 && not w.ended

-- How many operations are passed at once at most.
abbrev pub at_once : ℕ
at_once = 64

-- By the operations that were passed, or where there are none by what was read.
abbrev pub many_at : Passage → Reading → Window → Standing
many_at p reading w = cond (p.count == 0) (after reading w) (standing (Ok tt) (passed_at p.at p.count w))

-- After a turn, with enough bytes there: at its end the input stops.
abbrev pub turned_at : Passage → Reading → Window → Standing
turned_at p reading w = cond (w.end - w.start == 0) (standing (Err Ended) w) (many_at p reading w)

-- Where an input stands once more of it was asked for: what was unread is still there, in front of the piece that came, and the
-- input ended where none came; the bytes that left the buffer are counted. Where it could not be read, nothing of this is said.
pub record Brings {E : Type 0} (bytes : List ℕ) (w : Window) (came : Result (Unit {0}) E) (after : List ℕ) (next : Window) : Type 0 where
  pub operations : next.operations ≡ w.operations
  pub before : came ≡ Ok tt → next.before ≡ (w.before + w.start) % 2 ^ 64
  pub piece : came ≡ Ok tt → (piece : List ℕ) × (unread_of after next ≡ unread_of bytes w ++ piece) × (next.ended ≡ true → piece ≡ [])
      × (next.ended ≡ false → 0 < length piece)
