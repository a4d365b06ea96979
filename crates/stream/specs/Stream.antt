-- Where a replay stands whose input comes in pieces, and one operation of it. docs/MANUAL.md, "Programs".
use Rattle.std.specs.Prelude.{ℕ, ◌||◌, cond, List, length, take, nat_le, nat_lt, Result, Ok, Err}
use Rattle.state.specs.Named.{fresh}
use Rattle.recording.specs.RecordedStep.{recorded_step}
use Rattle.line.specs.Line.{line_written}
use Rattle.line.specs.Turn.{turn_of}
use Rattle.input.specs.Input as window
use Rattle.stream.specs.declared.Progress.{Progress}
use Rattle.stream.specs.declared.End.{End}
use Rattle.stream.specs.declared.End.TheVariants.{Done, Damaged}

-- Before the first byte: a fresh state, nothing read and no line.
abbrev pub start : Progress
start = record { state = fresh; window = window.begun; used = 0 }

-- Whether or why not the replay goes on, and where it stands, with the records' room and the output's buffer as they are then.
pub record Standing : Type 0 where
  pub outcome : Result (Unit {0}) End
  pub progress : Progress
  pub room : List ℕ
  pub output : List ℕ

-- The four, together.
abbrev pub standing : Result (Unit {0}) End → Progress → List ℕ → List ℕ → Standing
standing outcome p room output = record { outcome = outcome; progress = p; room = room; output = output }

-- After the operation at a place of the bytes that were read: the replay goes on behind it, with its line behind the others,
-- unless reading stops there, which damage to the recording does. The operation is counted.
unfoldable pub operated : List ℕ → List ℕ → List ℕ → Progress → Standing
operated room bytes output p =
    let t = turn_of p.state room bytes p.window.start output p.used in
    let step = (recorded_step p.state room bytes p.window.start).result in
    standing (cond t.stops (Err Damaged) (Ok tt)) (record { state = t.state; window = window.passed_at t.next 1 p.window; used = t.used }) step.room
    (line_written output p.used step.answer)

-- After the operation at the front of the unread bytes; where there are none, the replay stops.
unfoldable pub next : List ℕ → List ℕ → List ℕ → Progress → Standing
next room input output p =
    cond (nat_le p.window.end p.window.start || nat_lt (length input) p.window.end) (standing (Err Done) p room output)
    (operated room (take p.window.end input) output p)

-- The bytes of the input's buffer that were read and are not yet replayed.
abbrev pub unread_of : List ℕ → Progress → List ℕ
unread_of input p = window.unread_of input p.window
