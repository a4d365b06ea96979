-- What a program keeps of the input in its buffer, and of the output in its own. docs/MANUAL.md, "Programs".
use Rattle.std.specs.Prelude.{◌≡◌, ◌≤◌, ℕ, ◌+◌, cond, List, [], ◌++◌, leb, length, take, drop}
use Rattle.std.proofs.Math.Seq.{slice}

-- The bytes that wait from a place up to an end: none where the end is not behind the place, or is past the input.
unfoldable pub waiting : List ℕ → ℕ → ℕ → List ℕ
waiting input at end = cond (leb end (length input)) (slice at end input) []

-- The input with these at its front; what stands behind them is as it was.
unfoldable pub moved_down : List ℕ → ℕ → ℕ → List ℕ
moved_down input at end = waiting input at end ++ drop (length (waiting input at end)) input

-- So many bytes are there: n is no place past their end, and the first n of them are n bytes. (Either part gives the other; a caller
-- that takes the first n asks for the one, and for how many they are then for the other.)
abbrev pub IsPrefixLen : ℕ → List ℕ → Type 0
IsPrefixLen n bytes = (n ≤ length bytes) × (n ≡ length (take n bytes))

-- What each part of a text promises: where its bytes have room in the 65536 bytes of the output, they stand behind those that
-- stood there.
pub record Put (out : List ℕ) (bytes : List ℕ) (after : List ℕ) : Type 0 where
  pub held : length out + length bytes ≤ 65536 → after ≡ out ++ bytes
