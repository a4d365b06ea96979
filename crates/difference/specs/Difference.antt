-- The names of what differs in two operations, as `compare` prints them. docs/MANUAL.md, "Programs".
use Rattle.std.specs.Prelude.{ℕ, Bool, false, cond, ◌||◌, List, [], ◌∷◌, ◌++◌}
use Prim.Native.String.{String}
use Rattle.bits.specs.Bits.{is_set}
use Rattle.text.specs.Text.{bytes_of_text}
use Rattle.readable.specs.Readable.{entry}

-- A name where it is among those that are told: behind a comma where others stand before it.
abbrev pub piece : Bool → Bool → List ℕ → List ℕ
piece begun told name = cond told (cond begun (bytes_of_text ", ") [] ++ name) []

-- Names, those that are told, with commas between them. Whether one stands before goes along.
abbrev pub joined : Bool → List (Bool × List ℕ) → List ℕ
joined begun [] = []
joined begun ((told, name) ∷ list) = piece begun told name ++ joined (begun || told) list

-- What differs in two operations whose fields have these names.
unfoldable pub names : ℕ → List ℕ → List ℕ → List ℕ → List ℕ → List ℕ
names d a b c e =
    joined false
    ((is_set 0 d, bytes_of_text "code")
    ∷ (is_set 1 d, bytes_of_text "cycles")
    ∷ (is_set 2 d, a)
    ∷ (is_set 3 d, b)
    ∷ (is_set 4 d, c)
    ∷ (is_set 5 d, e)
    ∷ [])

-- The same with the names as texts.
abbrev pub named : ℕ → String → String → String → String → List ℕ
named d a b c e = names d (bytes_of_text a) (bytes_of_text b) (bytes_of_text c) (bytes_of_text e)

-- The fields by the operation's code, under the names that `list` has for them; a field that an operation does not have never
-- differs.
abbrev pub names_by_code : ℕ → List (ℕ × List ℕ)
names_by_code d =
    (0, named d "size" "v1p1" "" "")
    ∷ (1, named d "type" "mispredicted" "source" "target")
    ∷ (2, named d "type" "target_level" "source" "target")
    ∷ (3, named d "target_level" "mispredicted" "source" "target")
    ∷ (4, named d "P" "" "" "")
    ∷ (5, named d "register" "" "" "")
    ∷ (6, named d "register" "value" "" "")
    ∷ (8, named d "source" "" "" "")
    ∷ (9, named d "target" "target_level" "" "")
    ∷ (10, named d "group" "physical" "virtual_offset" "guest_offset")
    ∷ []

-- What differs in two operations of this code; those of a code that is none of these have no fields.
unfoldable pub differing_names : ℕ → ℕ → List ℕ
differing_names code d = entry (names_by_code d) code (named d "" "" "" "")
