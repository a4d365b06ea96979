-- What `compare` prints of two recordings that can be read, and its line of numbers. docs/MANUAL.md, "Programs".
use Rattle.std.specs.Prelude.{ℕ, ◌+◌, ◌%◌, ◌^◌, Bool, cond, List, [], ◌∷◌, ◌++◌, ◌==◌}
use Prim.Native.String.{String}
use Rattle.text.specs.Text.{bytes_of_text, decimal}
use Rattle.notation.specs.Text.{spaced}
use Rattle.readable.specs.Readable.{readable_line}
use Rattle.difference.specs.Difference.{differing_names}
use Rattle.compare.specs.declared.Rest.{Rest}
use Rattle.compare.specs.declared.Parting.{Parting}
use Rattle.comparison.specs.declared.Told.{Told}

-- A number behind a text.
abbrev pub numbered : String → ℕ → List ℕ
numbered text n = bytes_of_text text ++ decimal n

-- So many operations: one, or several.
abbrev pub counted : ℕ → List ℕ
counted n = decimal n ++ bytes_of_text " operation" ++ cond (n == 1) [] (bytes_of_text "s")

-- How many are equal at the front.
abbrev pub equal_line : ℕ → List ℕ
equal_line n = bytes_of_text "equal at the front: " ++ counted n ++ bytes_of_text "\n"

-- The first unequal pair: its number, counted from 1, what differs in it, and the two as `list` shows them.
unfoldable pub unequal_lines : Told → List ℕ
unequal_lines t =
    numbered "operation " ((t.parting.equal + 1) % 2 ^ 64)
    ++ bytes_of_text " differs in " ++ differing_names t.x.code t.parting.differing
    ++ bytes_of_text ":\n    " ++ readable_line t.x
    ++ bytes_of_text "    " ++ readable_line t.y

-- What is left of the longer one, behind what is said of it.
abbrev pub left_line : List ℕ → ℕ → Rest → List ℕ
left_line opening left rest =
    opening ++ counted left ++ numbered ", " rest.length ++ numbered " bytes, from byte " rest.at ++ bytes_of_text " on\n"

-- The last line: which one ends first, or that neither does, or that nothing differs.
unfoldable pub last_line : Told → List ℕ
last_line t =
    cond (t.parting.ending == 1) (left_line (bytes_of_text "the first ends first; left of the second: ") t.left t.parting.rest)
    (cond (t.parting.ending == 2) (left_line (bytes_of_text "the second ends first; left of the first: ") t.left t.parting.rest)
    (cond (t.parting.differing == 0) (bytes_of_text "no difference\n") (bytes_of_text "neither ends first\n")))

-- All of it.
unfoldable pub lines : Told → List ℕ
lines t = equal_line t.parting.equal ++ cond (t.parting.differing == 0) [] (unequal_lines t) ++ last_line t

-- With --numbers: the nine numbers, in the order of `struct brb_parting`.
unfoldable pub numbers_of : Parting → List ℕ
numbers_of p =
    decimal p.number
    ++ spaced (p.which ∷ p.at ∷ p.equal ∷ p.ending ∷ p.differing ∷ p.rest.of ∷ p.rest.at ∷ p.rest.length ∷ [])
    ++ bytes_of_text "\n"

-- Either of them.
unfoldable pub told : Bool → Told → List ℕ
told numbers t = cond numbers (numbers_of t.parting) (lines t)
