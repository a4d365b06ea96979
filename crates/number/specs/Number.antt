-- One number of a recording: its digits in base 128, lowest first, a byte each, with the byte's top bit saying that another
-- follows. Only the shortest form counts, of a number below 2^64, which has ten digits at most. So AC 02 is 44 + 2 × 128, and
-- 80 00, a 0 with a digit too many, is no number. Document 01, "Recordings"; docs/MANUAL.md, "Recordings".
use Rattle.std.specs.Prelude.{ℕ, zero, suc, ◌+◌, ◌*◌, ◌-◌, ◌^◌, ◌/◌, ◌%◌, cond, ◌||◌, List, [], ◌∷◌, ◌++◌, leb, ltb, eqb, length, take, drop, Option, Some, None, Result, Ok, Err}
use Rattle.number.specs.declared.Fault.{Fault}
use Rattle.number.specs.declared.Fault.TheVariants.{Malformed, Ended}

-- What is found at a place: a number and the place after it, or why there is none.
abbrev pub Found : Type 0
Found = Result (ℕ × ℕ) Fault

-- A byte b with its top bit set, in front of what the bytes after it read as. They must not read as 0, or the form were not
-- the shortest, and must stay below 2^57, so that 128 times as much stays below 2^64.
abbrev pub continued : ℕ → Found → Found
continued b (Ok (n, next)) = cond (eqb n 0 || leb (2 ^ 57) n) (Err Malformed) (Ok (b - 128 + 128 * n, next))
continued b (Err fault) = Err fault

-- The number in front of the list, whose first byte stands at the given place, where so many bytes are still allowed to it.
-- Where a further byte is needed and none is allowed any more, it is malformed.
unfoldable pub number_in : ℕ → List ℕ → ℕ → Found
number_in zero bytes at = Err Malformed
number_in (suc allowed) [] at = Err Ended
number_in (suc allowed) (b ∷ bytes) at = cond (ltb b 128) (Ok (b, at + 1)) (continued b (number_in allowed bytes (at + 1)))

-- The number at a place of a recording, and the place after it.
unfoldable pub number_at : List ℕ → ℕ → Found
number_at bytes at = number_in 10 (drop at bytes) at

-- The place after the number that was found, where one was.
abbrev pub end_of_number : Found → Option ℕ
end_of_number (Ok (n, next)) = Some next
end_of_number (Err fault) = None

-- The bytes of n, where it has at most so many digits in base 128.
unfoldable pub bytes_in : ℕ → ℕ → List ℕ
bytes_in zero n = []
bytes_in (suc digits) n = cond (ltb n 128) (n ∷ []) ((n % 128 + 128) ∷ bytes_in digits (n / 128))

-- The bytes of a number below 2^64, in its shortest form.
unfoldable pub bytes_of : ℕ → List ℕ
bytes_of n = bytes_in 10 n

-- Lent bytes after a write at a place: what stood before it and past it stands there still.
abbrev pub written : List ℕ → ℕ → List ℕ → List ℕ
written out at bytes = take at out ++ (bytes ++ drop (at + length bytes) out)

-- Lent bytes after a writer that writes all of the bytes at a place, or none where they have no room there. (House: every
-- writer of the library does so.)
unfoldable pub written_if : List ℕ → ℕ → List ℕ → List ℕ
written_if out at bytes = cond (leb (at + length bytes) (length out)) (written out at bytes) out

-- How many bytes such a writer answers that it wrote: all, or 0.
unfoldable pub count_if : List ℕ → ℕ → List ℕ → ℕ
count_if out at bytes = cond (leb (at + length bytes) (length out)) (length bytes) 0
