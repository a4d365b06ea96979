-- What a whole text holds: with its comments left out, cut where operations end, each piece an operation or nothing. What
-- `pack` writes are the bytes of these operations. docs/MANUAL.md, "Programs".
use Rattle.std.specs.Prelude.{ℕ, Bool, true, false, cond, ◌&&◌, not, List, [], ◌∷◌, ◌++◌, eqb, Ok, Err}
use Rattle.recording.specs.declared.Numbers.{Numbers}
use Rattle.recording.specs.Operations.{recording_bytes}
use Rattle.notation.specs.declared.Begun.{Begun}
use Rattle.notation.specs.declared.Problem.{Problem}
use Rattle.notation.specs.declared.Step.TheVariants.{More, Operation, Nothing}
use Rattle.notation.specs.Text.{numbers_line}
use Rattle.notation.specs.Words.{ends_operation}
use Rattle.notation.specs.Reading.{Outcome, none_begun, ended_at, read_from}

-- A text without what stands between a # and its line's end; whether its first byte stands there is told.
unfoldable pub uncommented : Bool → List ℕ → List ℕ
uncommented inside [] = []
uncommented inside (b ∷ text) = cond (inside && not (eqb b 10)) (uncommented true text) (b ∷ uncommented (eqb b 35) text)

-- A byte in front of the first of some pieces.
abbrev pub on_first : ℕ → List (List ℕ) → List (List ℕ)
on_first b [] = (b ∷ []) ∷ []
on_first b (piece ∷ pieces) = (b ∷ piece) ∷ pieces

-- The pieces of a text between the bytes that end operations.
unfoldable pub pieces : List ℕ → List (List ℕ)
pieces [] = [] ∷ []
pieces (b ∷ text) = cond (ends_operation b) ([] ∷ pieces text) (on_first b (pieces text))

-- How a text ends: with nothing wrong, or with a problem, at which reading stops.
pub data Ending : Type 0 where
  complete : Ending
  stopped : Problem → Ending

-- The operations of a text, up to the first problem.
pub record Content : Type 0 where
  pub operations : List Numbers
  pub ending : Ending

-- What a piece comes to, in front of what the text holds behind it. The piece's end ends the operation.
abbrev pub in_front : Content → Outcome → Content
in_front rest (Ok (Operation x at)) = record { operations = x ∷ rest.operations; ending = rest.ending }
in_front rest (Ok (Nothing at)) = rest
in_front rest (Ok (More begun)) = rest
in_front rest (Err wrong) = record { operations = []; ending = stopped wrong.problem }

-- What reading a piece came to, where the piece ends: an operation that was begun ends there.
abbrev pub at_end : Outcome → Outcome
at_end (Ok (More begun)) = ended_at begun 0
at_end (Ok (Operation x at)) = Ok (Operation x at)
at_end (Ok (Nothing at)) = Ok (Nothing at)
at_end (Err wrong) = Err wrong

-- What some pieces hold, one after another.
unfoldable pub content_of_all : List (List ℕ) → Content
content_of_all [] = record { operations = []; ending = complete }
content_of_all (piece ∷ more) = in_front (content_of_all more) (at_end (read_from none_begun [] piece 0))

-- What a text without comments holds, where of its first operation something was read before.
unfoldable pub content_from : Begun → List ℕ → Content
content_from begun text = behind begun (pieces text)
  where
    behind : Begun → List (List ℕ) → Content
    behind begun [] = content_of_all []
    behind begun (piece ∷ more) = in_front (content_of_all more) (at_end (read_from begun [] piece 0))

-- What a text holds.
unfoldable pub content_of : List ℕ → Content
content_of text = content_of_all (pieces (uncommented false text))

-- The bytes that `pack` writes of a text.
unfoldable pub packed_bytes : List ℕ → List ℕ
packed_bytes text = recording_bytes (content_of text).operations

-- What `list --numbers` prints of operations.
unfoldable pub numbers_lines : List Numbers → List ℕ
numbers_lines [] = []
numbers_lines (x ∷ list) = numbers_line x ++ numbers_lines list
