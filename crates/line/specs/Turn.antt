-- One operation of a replay: the recorded step, and its line behind those that stand in the lent bytes already. docs/MANUAL.md,
-- "Programs".
use Rattle.std.specs.Prelude.{ℕ, ◌+◌, List}
use Rattle.state.specs.declared.State.{State}
use Rattle.recording.specs.RecordedStep.{recorded_step, stops_reading}
use Rattle.line.specs.declared.Turn.{Turn}
use Rattle.line.specs.Line.{line_count}

-- Where the replay stands after the operation at a place; `used` of the lent bytes held lines before it.
unfoldable pub turn_of : State → List ℕ → List ℕ → ℕ → List ℕ → ℕ → Turn
turn_of s room bytes at out used =
    let r = recorded_step s room bytes at in
    let answer = r.result.answer in
    record { state = r.result.state; next = r.next; used = used + line_count out used answer; stops = stops_reading answer }
