-- One operation of a recording, read and written: its code, its cycles and its own fields, one number after another. Document
-- 01, "Recordings" and, of "Refusal numbers", what concerns reading and writing; docs/MANUAL.md, "Recordings".
use Rattle.std.specs.Prelude.{ℕ, zero, suc, ◌+◌, cond, List, [], ◌∷◌, ◌++◌, ltb, leb, length, get_or, take, Result, Ok, Err}
use Rattle.answer.specs.declared.Answer.{Answer}
use Rattle.answer.specs.declared.Refusal.{Refusal}
use Rattle.answer.specs.declared.Refusal.TheVariants.{MalformedNumber, UnknownCode}
use Rattle.number.specs.Number.{Found, number_at, bytes_of, written_if}
use Rattle.operation.specs.Operation.{last_code}
use Rattle.recording.specs.declared.Numbers.{Numbers}
use Rattle.recording.specs.declared.Damage.{Damage}

-- What reading an operation at a place comes to: the operation, and the place after it; or the refusal, and where the bad number starts.
abbrev pub Reading : Type 0
Reading = Result (Numbers × ℕ) Damage

-- A refusal of what starts at a place.
abbrev pub damage : Refusal → ℕ → Damage
damage refusal at = record { refusal = refusal; at = at }

-- What was found where a number is read: one that the end of the input cuts off is refused as a malformed one is. (The two are told apart
-- for whoever can bring more input.)
abbrev pub read_as : ℕ → Found → Result (ℕ × ℕ) Damage
read_as at (Ok (n, next)) = Ok (n, next)
read_as at (Err fault) = Err (damage MalformedNumber at)

-- The number at a place, and the place after it.
abbrev pub number_from : List ℕ → ℕ → Result (ℕ × ℕ) Damage
number_from bytes at = read_as at (number_at bytes at)

-- How many fields each code has, from 0 on.
abbrev pub field_counts : List ℕ
field_counts = 2 ∷ 4 ∷ 4 ∷ 4 ∷ 1 ∷ 1 ∷ 2 ∷ 0 ∷ 1 ∷ 2 ∷ 4 ∷ []

-- How many a code has; one past the last has none.
unfoldable pub field_count : ℕ → ℕ
field_count code = get_or field_counts code 0

-- Several numbers read one after another: all of them and the place after the last; or the refusal, and where the first bad one starts.
abbrev pub Several : Type 0
Several = Result (List ℕ × ℕ) Damage

-- A number in front of several.
abbrev pub in_front : ℕ → Several → Several
in_front n (Ok (list, next)) = Ok (n ∷ list, next)
in_front n (Err d) = Err d

-- What was read, in front of the rest, which is read from the place after it.
abbrev pub then_read : (ℕ → Several) → Result (ℕ × ℕ) Damage → Several
then_read rest (Ok (n, next)) = in_front n (rest next)
then_read rest (Err d) = Err d

-- So many numbers from a place on.
unfoldable pub numbers_at : ℕ → List ℕ → ℕ → Several
numbers_at zero bytes at = Ok ([], at)
numbers_at (suc k) bytes at = then_read (numbers_at k bytes) (number_from bytes at)

-- An operation's six numbers: its code, its cycles and four fields.
abbrev pub numbers : ℕ → ℕ → ℕ → ℕ → ℕ → ℕ → Numbers
numbers code cycles a b c d = record { code = code; cycles = cycles; a = a; b = b; c = c; d = d }

-- An operation from its code, and its cycles and own fields in a list: 0 for the fields that it does not have.
abbrev pub numbers_of : ℕ → List ℕ → Numbers
numbers_of code list = numbers code (get_or list 0 0) (get_or list 1 0) (get_or list 2 0) (get_or list 3 0) (get_or list 4 0)

-- An operation whose code was read, with its cycles and fields as they were read.
abbrev pub with_fields : ℕ → Several → Reading
with_fields code (Ok (list, next)) = Ok (numbers_of code list, next)
with_fields code (Err d) = Err d

-- The same of an operation, and the place after it or where its bad number starts.
abbrev pub as_reading : Numbers → Result ℕ ℕ → Reading
as_reading x (Ok next) = Ok (x, next)
as_reading x (Err at) = Err (damage MalformedNumber at)

-- What was read where the code stands. Where no code can be read it is 1; a code past the last is 2, before its cycles and
-- fields are read; then these are. The place that goes with a refusal is where the bad number starts (house).
abbrev pub after_code : List ℕ → ℕ → Result (ℕ × ℕ) Damage → Reading
after_code bytes at (Ok (code, next)) =
    cond (ltb last_code code) (Err (damage UnknownCode at)) (with_fields code (numbers_at (suc (field_count code)) bytes next))
after_code bytes at (Err d) = Err d

-- The operation at a place of a recording, and the place after it; or the refusal, and where the bad number
-- starts. An operation that the end of the input cuts off has a number that is cut off or missing, and so is refused.
unfoldable pub operation_at : List ℕ → ℕ → Reading
operation_at bytes at = after_code bytes at (number_from bytes at)

-- The bytes of several numbers, end to end.
unfoldable pub bytes_of_all : List ℕ → List ℕ
bytes_of_all [] = []
bytes_of_all (n ∷ list) = bytes_of n ++ bytes_of_all list

-- An operation's cycles and its own fields.
abbrev pub own_numbers : Numbers → List ℕ
own_numbers x = x.cycles ∷ take (field_count x.code) (x.a ∷ x.b ∷ x.c ∷ x.d ∷ [])

-- The bytes of an operation: its code, its cycles and its own fields.
unfoldable pub operation_bytes : Numbers → List ℕ
operation_bytes x = bytes_of_all (x.code ∷ own_numbers x)

-- What the writer answers: 2 for a code past the last, then 6 where the bytes have no room at the place, else how many were
-- written. It judges no field.
unfoldable pub writing_of : Numbers → ℕ → List ℕ → Answer
writing_of x at out =
    cond (ltb last_code x.code) (Answer.Refused 2)
    (cond (leb (at + length (operation_bytes x)) (length out)) (Answer.Value (length (operation_bytes x))) (Answer.Refused 6))

-- The lent bytes after the writer: where it refuses, none is written.
unfoldable pub written_operation : Numbers → ℕ → List ℕ → List ℕ
written_operation x at out = cond (ltb last_code x.code) out (written_if out at (operation_bytes x))
