-- By which lines each exported function refuses, in their order: document 01, "Refusal numbers, in order of checking", and for the bank
-- view "Access outcomes", last paragraph; for sums document 02, "Four".
use Rattle.std.specs.Prelude.{ℕ, suc, ◌+◌, ◌*◌, ◌/◌, Bool, true, false, ◌&&◌, not, List, [], ◌∷◌, ◌++◌, eqb, ltb, leb, length, drop}
use Rattle.bits.specs.Bits.{one_of}
use Rattle.count.specs.Count.{exceeded}
use Rattle.sum.specs.Sum.{low_sum, high_sum, all_listed, all_bounded, largest_number}
use Rattle.number.specs.Number.{Found, number_at}
use Rattle.state.specs.Named.{sizes}
use Rattle.state.specs.Parts.{state_numbers, state_of}
use Rattle.state.specs.Sound.{sound}
use Rattle.room.specs.Room.{needed}
use Rattle.operation.specs.declared.Operation.{Operation}
use Rattle.operation.specs.Operation.{last_code, operation_of}
use Rattle.operation.specs.Refusal.{table}
use Rattle.recording.specs.declared.Numbers.{Numbers}
use Rattle.recording.specs.Recording.{field_count, Several, numbers_at, numbers_of, operation_bytes}
use Rattle.recording.specs.Run.{readings}
use Rattle.std.specs.Prelude.{Ok, Err}

-- Lines, each with its number and its condition.
abbrev pub Lines : Type 0
Lines = List (ℕ × Bool)

-- Too few numbers are lent to hold a state.
abbrev pub too_few : List ℕ → ℕ × Bool
too_few words = (7, ltb (length words) state_numbers)

-- `brb_step`: 7 for too short a memory, then the table of the state that it holds.
abbrev pub step_lines : List ℕ → Operation → ℕ → Lines
step_lines words o room = too_few words ∷ table (state_of words) o room

-- ---- what stands at a position of a recording

-- It is a number.
abbrev pub is_number : Found → Bool
is_number (Ok (n, next)) = true
is_number (Err fault) = false

-- Its value, or 0 where it is no number.
abbrev pub value_of : Found → ℕ
value_of (Ok (n, next)) = n
value_of (Err fault) = 0

-- The position after it.
abbrev pub position_after : Found → ℕ
position_after (Ok (n, next)) = next
position_after (Err fault) = 0

-- They are all numbers.
abbrev pub are_numbers : Several → Bool
are_numbers (Ok (list, next)) = true
are_numbers (Err d) = false

-- Their values.
abbrev pub values_of : Several → List ℕ
values_of (Ok (list, next)) = list
values_of (Err d) = []

-- The code at a position.
abbrev pub code_at : List ℕ → ℕ → ℕ
code_at bytes at = value_of (number_at bytes at)

-- The cycles and as many fields as the code has, behind the code at a position.
abbrev pub rest_at : List ℕ → ℕ → Several
rest_at bytes at = numbers_at (suc (field_count (code_at bytes at))) bytes (position_after (number_at bytes at))

-- The operation that they make.
abbrev pub operation_in : List ℕ → ℕ → Operation
operation_in bytes at =
    let x = numbers_of (code_at bytes at) (values_of (rest_at bytes at)) in operation_of x.code x.a x.b x.c x.d

-- ---- lines of the recorded step, of reading and of writing

-- Reading an operation: 1 for a malformed code; 2 for a code past the last; 1 for malformed cycles or a malformed field.
abbrev pub reading_lines : List ℕ → ℕ → Lines
reading_lines bytes at =
    (1, not (is_number (number_at bytes at))) ∷ (2, ltb last_code (code_at bytes at)) ∷ (1, not (are_numbers (rest_at bytes at))) ∷ []

-- `brb_step_recorded`: 7; then 1, 2 and 1 of reading; then the rest of the table, 3, 4, 8, 5 and 6.
abbrev pub recorded_lines : List ℕ → List ℕ → ℕ → ℕ → Lines
recorded_lines words bytes at room =
    too_few words ∷ (7, not (sound (state_of words))) ∷ (reading_lines bytes at ++ drop 2 (table (state_of words) (operation_in bytes at) room))

-- `brb_recording_read`: 6 for a place of fewer than six numbers, then those of reading.
abbrev pub read_lines : List ℕ → ℕ → List ℕ → Lines
read_lines bytes at place = (6, ltb (length place) 6) ∷ reading_lines bytes at

-- `brb_recording_write`: 2 for a code past the last; 6 where the bytes have no room at the position.
abbrev pub write_lines : Numbers → ℕ → List ℕ → Lines
write_lines x at out = (2, ltb last_code x.code) ∷ (6, ltb (length out) (at + length (operation_bytes x))) ∷ []

-- `brb_batch`: 7 for all of it; then 6 for a place of fewer than two numbers for each operation up to and including the one that
-- ends the run.
abbrev pub batch_lines : List ℕ → List ℕ → List ℕ → Lines
batch_lines words bytes answers =
    too_few words ∷ (7, not (sound (state_of words))) ∷ (6, ltb (length answers) (2 * length (readings bytes))) ∷ []

-- ---- lines of the bank view, of decoding and of adding up

-- `brb_bank_inf`, `brb_bank_source`, `brb_bank_target`: 4 for a size, a BANK or an m outside its list; 7 for a start that is not below
-- the size; 6 for too short a room.
abbrev pub bank_lines : ℕ → ℕ → ℕ → ℕ → List ℕ → Lines
bank_lines size start bank m room =
    (4, not (one_of sizes size)) ∷ (4, ltb 3 bank) ∷ (4, ltb 31 m) ∷ (7, leb size start) ∷ (6, ltb (length room) (needed size)) ∷ []

-- `brb_count_decode`: 4 for an E above 12, but for all ones.
abbrev pub decode_lines : ℕ → Lines
decode_lines cc = (4, not (eqb cc exceeded) && ltb 12 (cc / 256)) ∷ []

-- `brb_count_sum`: 4 for an encoding outside its list; 9 where the sum of the smallest counts, or that of the largest if there is an
-- upper end, passes the largest number.
abbrev pub sum_lines : List ℕ → Lines
sum_lines run =
    (4, not (all_listed run)) ∷ (9, ltb largest_number (low_sum run)) ∷ (9, all_bounded run && ltb largest_number (high_sum run)) ∷ []
