-- What a recording holds, or a lent run of recorded operations: all that is read from its first byte on, and where it ends.
-- Document 02, "Two" and "Eight"; docs/MANUAL.md, "Batches" and "Comparing recordings".
use Rattle.std.specs.Prelude.{ℕ, zero, suc, cond, List, [], ◌∷◌, leb, length, Option, Some, None, Ok, Err}
use Rattle.recording.specs.declared.Passage.{Passage}
use Rattle.recording.specs.Recording.{Reading, Several, operation_at}

-- What was read, and behind it what is read from the place after it on: nothing, where reading was refused, since that place
-- is then not known.
abbrev pub then_on : (ℕ → List Reading) → Reading → List Reading
then_on rest (Ok (x, next)) = Ok (x, next) ∷ rest next
then_on rest (Err d) = Err d ∷ []

-- What is read from a place on, at most so many times: none at the end of the bytes.
unfoldable pub read_from : ℕ → List ℕ → ℕ → List Reading
read_from zero bytes at = []
read_from (suc most) bytes at = cond (leb (length bytes) at) [] (then_on (read_from most bytes) (operation_at bytes at))

-- All that is read of a run: its operations, up to and including the one that cannot be read, if there is one, which ends it.
-- Each has a byte at least, so that there are at most as many as bytes.
unfoldable pub readings : List ℕ → List Reading
readings bytes = read_from (length bytes) bytes 0

-- Where reading goes on: behind the operation; at the end of the bytes, so nowhere, where it was refused.
abbrev pub place_after : List ℕ → Reading → ℕ
place_after bytes (Ok (x, next)) = next
place_after bytes (Err d) = length bytes

-- The place behind the operation that was read, where it was not refused.
abbrev pub end_of : Reading → Option ℕ
end_of (Ok (x, next)) = Some next
end_of (Err d) = None

-- The same of several numbers.
abbrev pub end_of_several : Several → Option ℕ
end_of_several (Ok (list, next)) = Some next
end_of_several (Err d) = None

-- By what is read at a place: the operation is passed, and then those behind it; what cannot be read is not.
abbrev pub passed_by : (ℕ → Passage) → ℕ → Reading → Passage
passed_by rest at (Ok (x, next)) = record { count = suc (rest next).count; at = (rest next).at }
passed_by rest at (Err d) = record { count = 0; at = at }

-- Operations passed one after another from a place on, at most so many: how many, and the place after them.
unfoldable pub passed_from : ℕ → List ℕ → ℕ → Passage
passed_from zero bytes at = record { count = 0; at = at }
passed_from (suc most) bytes at = passed_by (passed_from most bytes) at (operation_at bytes at)
