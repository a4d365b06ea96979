-- A whole recording, and what the promises and laws on reading and writing need. Document 01, "Recordings"; docs/MANUAL.md,
-- "Recordings".
use Rattle.std.specs.Prelude.{ℕ, ◌≤◌, ◌≡◌, cond, List, [], ◌∷◌, ◌++◌, leb, length, drop}
use Rattle.recording.specs.declared.Numbers.{Numbers}
use Rattle.recording.specs.Recording.{numbers_of, own_numbers, operation_at, operation_bytes}
use Rattle.std.specs.Prelude.{Ok}

-- An operation as a reader gives it: 0 for the numbers beyond its own fields.
abbrev pub as_read : Numbers → Numbers
as_read x = numbers_of x.code (own_numbers x)

-- An operation's six numbers in lent numbers: those past them are as they were. Too few are left alone.
unfoldable pub stored_numbers : Numbers → List ℕ → List ℕ
stored_numbers x lent =
    cond (leb 6 (length lent)) ((x.code ∷ x.cycles ∷ x.a ∷ x.b ∷ x.c ∷ x.d ∷ []) ++ drop 6 lent) lent

-- The bytes of operations, one after another.
unfoldable pub recording_bytes : List Numbers → List ℕ
recording_bytes [] = []
recording_bytes (x ∷ list) = operation_bytes x ++ recording_bytes list

-- The operations that a recording holds from a place on: none at the end of the input, else the one that is read there and
-- those after it.
pub data Holds (bytes : List ℕ) : ℕ → List Numbers → Type 0 where
  ends : {at : ℕ} → length bytes ≤ at → Holds bytes at []
  reads : {at next : ℕ} {x : Numbers} {list : List Numbers} → operation_at bytes at ≡ Ok (x, next) → Holds bytes next list
      → Holds bytes at (x ∷ list)
