-- What the replay program prints: a line for each answer that has something to show. Document 01, "Recordings";
-- docs/MANUAL.md, "Programs".
use Rattle.std.specs.Prelude.{ℕ, zero, suc, ◌+◌, cond, List, [], ◌++◌, leb, length, replicate}
use Rattle.number.specs.Number.{written}
use Rattle.text.specs.Text.{bytes_of_text, digits, decimal}
use Rattle.state.specs.declared.State.{State}
use Rattle.state.specs.Named.{fresh}
use Rattle.answer.specs.declared.Answer.{Answer}
use Rattle.answer.specs.declared.Answer.TheVariants.{Done, Value, Undefined, Trap2, Trap3, Refused}
use Rattle.recording.specs.RecordedStep.{recorded_step, stops_reading}

-- The line of an answer, its end included: what a read shows as 16 hexadecimal digits, how an access ended that was not
-- performed, or the refusal with its number. What was done without a value has no line, and no byte.
unfoldable pub line_of : Answer → List ℕ
line_of Done = []
line_of (Value v) = digits 16 16 v ++ bytes_of_text "\n"
line_of Undefined = bytes_of_text "undefined\n"
line_of Trap2 = bytes_of_text "trap2\n"
line_of Trap3 = bytes_of_text "trap3\n"
line_of (Refused n) = bytes_of_text "refused " ++ decimal n ++ bytes_of_text "\n"

-- Lent bytes with an answer's line at a place. A line has at most 29 bytes; where 32 have no room, nothing is written (house:
-- the program makes room before).
unfoldable pub line_written : List ℕ → ℕ → Answer → List ℕ
line_written out at answer = cond (leb (at + 32) (length out)) (written out at (line_of answer)) out

-- How many bytes are written so.
unfoldable pub line_count : List ℕ → ℕ → Answer → ℕ
line_count out at answer = cond (leb (at + 32) (length out)) (length (line_of answer)) 0

-- What a replay prints from a state, a room and a place on, of at most so many operations: the line of each, up to the end of
-- the input, where no operation begins, or to the first after which reading stops.
unfoldable pub replay_from : ℕ → State → List ℕ → List ℕ → ℕ → List ℕ
replay_from zero s room bytes at = []
replay_from (suc most) s room bytes at =
    let r = recorded_step s room bytes at in
    let rest = replay_from most r.result.state r.result.room bytes r.next in
    cond (leb (length bytes) at) [] (line_of r.result.answer ++ cond (stops_reading r.result.answer) [] rest)

-- What the replay of a recording prints, from a fresh state on and with the largest room, three numbers for each of 64 records.
-- Each operation has a byte at least, so that there are at most as many as the recording has bytes.
unfoldable pub replay_of : List ℕ → List ℕ
replay_of bytes = replay_from (length bytes) fresh (replicate 192 0) bytes 0
