-- One turn of `list`: the operation that is read at the place, its line behind those that wait, and the place after it.
-- docs/MANUAL.md, "Programs".
use Rattle.std.specs.Prelude.{◌≡◌, ℕ, ◌+◌, ◌-◌, ◌%◌, ◌^◌, min, Bool, true, false, cond, not, ◌&&◌, List, [], ◌++◌, leb, length, nat_lt}
use Rattle.recording.specs.declared.Numbers.{Numbers}
use Rattle.recording.specs.Recording.{Reading}
use Rattle.readable.specs.Readable.{line_of}
use Rattle.input.specs.declared.Window.{Window}
use Rattle.input.specs.Input.{passed_at}
use Rattle.std.specs.Prelude.{Ok, Err, Option, Some, None}

-- What stands in front of the next line: the lines that wait, or none where these leave no room for the longest line.
abbrev pub lines_before : List ℕ → List ℕ
lines_before out = cond (leb (length out + 256) 65536) out []

-- What a turn leaves of the place and of the lines that wait: the line of the operation is behind them, and reading goes on after
-- it; or the lines before it could not go out, none waits, and all stops: there is no place to go on from.
pub data Listed (out : List ℕ) (numbers : Bool) (p : Window) (x : Numbers) (next : ℕ) : Option Window → List ℕ → Type 0 where
  with_line : Listed out numbers p x next (Some (passed_at next 1 p)) (lines_before out ++ line_of numbers x)
  no_output : Listed out numbers p x next None []

-- The same by what was read: what is refused is not listed, the lines before it go out, and all stops.
abbrev pub Turned : List ℕ → Bool → Window → Reading → Option Window → List ℕ → Type 0
Turned out numbers p (Ok (x, next)) q after = Listed out numbers p x next q after
Turned out numbers p (Err d) q after = (q ≡ None) × (after ≡ [])

-- The same by whether nothing is left, where the recording ends and all stops.
abbrev pub TurnedAt : Bool → List ℕ → Bool → Window → Reading → Option Window → List ℕ → Type 0
TurnedAt true out numbers p reading q after = (q ≡ None) × (after ≡ out)
TurnedAt false out numbers p reading q after = Turned out numbers p reading q after
