-- The marked cases P1 to P12 of document 01, "Marked cases", as a table that the checker computes from the definitions.
use Rattle.std.specs.Prelude.{ℕ, ◌≡◌, refl, cond, List, [], ◌∷◌, map}
use Rattle.count.specs.declared.Decoded.{Decoded}
use Rattle.count.specs.declared.Decoded.TheVariants.{Known}
use Rattle.recording.specs.declared.Numbers.{Numbers}
use Rattle.filter.specs.Filter.{branch_types, filter_bit, passes_filter}
use Rattle.text.specs.Text.{bytes_of_text, digits, decimal_count, decimal}
use Rattle.count.specs.Count.{bit_length, exponent, mantissa, encoded, smallest_of, largest_of, decoded}
use Rattle.number.specs.Number.{number_in, number_at, bytes_in, bytes_of}
use Rattle.state.specs.Sound.{unavailable, sound}
use Rattle.state.specs.Words.{judged}
use Rattle.room.specs.Room.{in_place, records, numbered, pushed, cleared, room_after, start_after}
use Rattle.region.specs.Region.{enabled, prohibited}
use Rattle.event.specs.Event.{controlled, valid, count_unknown, MPRED, BRBINF, record_of, becomes_record}
use Rattle.access.specs.Access.{n_bit, trapped2, outcome, read_outcome, write_outcome, iall_outcome, shown_record, shown_number, register_value, register_written}
use Rattle.operation.specs.Operation.{operation_of}
use Rattle.operation.specs.Refusal.{unknown_code, not_reset, outside_list, wrong_halted, wrong_level, room_too_short, refusal_of}
use Rattle.operation.specs.Clause.{changed}
use Rattle.change.specs.Change.{occasion, passed, effect_of, answer_of}
use Rattle.recorder.specs.Step.{accepted, step_of}
use Rattle.recording.specs.Recording.{numbers, field_count, numbers_at, operation_at, bytes_of_all, operation_bytes}
use Rattle.recording.specs.Operations.{recording_bytes}
use Rattle.recording.specs.RecordedStep.{recorded_step}
use Rattle.line.specs.Line.{line_of, replay_from, replay_of}

-- A marked case: what is put in, and what must come out.
pub data Case : Type 0 where
  -- a count, and its CC
  Encodes : ℕ → ℕ → Case
  -- a CC, and what it says: P8's count is the smallest of the two
  Decodes : ℕ → Decoded → Case
  -- a filter word, and the branch types that it records
  Records : ℕ → List ℕ → Case
  -- a session's operations, and all that its replay prints
  Prints : List Numbers → List ℕ → Case

-- The types of a list that a filter word lets through.
abbrev pub passing : ℕ → List ℕ → List ℕ
passing word [] = []
passing word (t ∷ types) = cond (passes_filter word (record { code = t })) (t ∷ passing word types) (passing word types)

-- The case with what the definitions make of its input. A session is written, read back, stepped and printed.
abbrev pub computed : Case → Case
computed (Encodes n cc) = Encodes n (encoded n)
computed (Decodes cc n) = Decodes cc (decoded cc)
computed (Records word types) = Records word (passing word branch_types)
computed (Prints session text) = Prints session (replay_of (recording_bytes session))

-- Session S1, operation by operation.
abbrev pub S1 : List Numbers
S1 =
    numbers 0 0 8 0 0 0
    ∷ numbers 4 0 49 0 0 0
    ∷ numbers 6 0 1 10 0 0
    ∷ numbers 6 0 2 8 0 0
    ∷ numbers 6 0 3 65536 0 0
    ∷ numbers 3 0 1 0 128 4096
    ∷ numbers 1 300 0 0 4100 4112
    ∷ numbers 1 300 8 1 4112 4096
    ∷ numbers 5 0 32 0 0 0
    ∷ numbers 5 0 33 0 0 0
    ∷ numbers 5 0 64 0 0 0
    ∷ numbers 5 0 2 0 0 0
    ∷ []

-- P1 to P12, each with what must come out.
abbrev pub cases : List Case
cases =
    Encodes 0 0
    ∷ Encodes 255 0xFF
    ∷ Encodes 256 0x100
    ∷ Encodes 511 0x1FF
    ∷ Encodes 513 0x200
    ∷ Encodes 1048575 0xCFF
    ∷ Encodes 1048576 0x3FFF
    ∷ Decodes 0xCFF (Known 1046528 1048575)
    ∷ Records 0 []
    ∷ Records 0x10000 branch_types
    ∷ Records 0x30000 (1 ∷ 2 ∷ 3 ∷ 5 ∷ 8 ∷ [])
    ∷ Prints S1 (bytes_of_text "0000012c00000843\n0000400000000043\n0000000000001010\nundefined\n")
    ∷ []

-- The fact: what the definitions make of each input is what must come out.
pub marked : map computed cases ≡ cases
unfolding bit_length exponent mantissa encoded smallest_of largest_of decoded number_in number_at bytes_in bytes_of unavailable sound judged in_place records numbered pushed cleared room_after start_after enabled prohibited filter_bit passes_filter controlled valid count_unknown MPRED BRBINF record_of becomes_record n_bit trapped2 outcome read_outcome write_outcome iall_outcome shown_record shown_number register_value register_written operation_of unknown_code not_reset outside_list wrong_halted wrong_level room_too_short refusal_of changed occasion passed effect_of answer_of accepted step_of field_count numbers_at operation_at bytes_of_all operation_bytes recording_bytes recorded_step digits decimal_count decimal line_of replay_from replay_of
marked = refl
