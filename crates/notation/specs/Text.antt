-- Numbers as text: a digit's value, a number with a digit more, and an operation as its own numbers. docs/MANUAL.md, "Programs".
use Rattle.std.specs.Prelude.{ℕ, ◌+◌, ◌-◌, ◌*◌, ◌^◌, cond, List, [], ◌∷◌, ◌++◌, ltb, Option, Some, None}
use Rattle.text.specs.Text.{bytes_of_text, decimal}
use Rattle.recording.specs.declared.Numbers.{Numbers}
use Rattle.recording.specs.Recording.{own_numbers}

-- The value of a digit 0 to 9, A to F or a to f. Every other byte has none.
abbrev pub digit_value : ℕ → Option ℕ
digit_value b =
    cond (ltb b 48) None
    (cond (ltb b 58) (Some (b - 48))
    (cond (ltb b 65) None (cond (ltb b 71) (Some (b - 55)) (cond (ltb b 97) None (cond (ltb b 103) (Some (b - 87)) None)))))

-- A value that is below a base.
abbrev pub below : ℕ → Option ℕ → Option ℕ
below base None = None
below base (Some digit) = cond (ltb digit base) (Some digit) None

-- The value of a digit of a base.
abbrev pub digit_of : ℕ → ℕ → Option ℕ
digit_of base b = below base (digit_value b)

-- A number with a digit more in a base, while it is below 2^64.
abbrev pub appended : ℕ → ℕ → ℕ → Option ℕ
appended base value digit = cond (ltb (value * base + digit) (2 ^ 64)) (Some (value * base + digit)) None

-- Numbers in decimal, with a space in front of each.
unfoldable pub spaced : List ℕ → List ℕ
spaced [] = []
spaced (n ∷ list) = bytes_of_text " " ++ decimal n ++ spaced list

-- An operation as its own numbers on a line, its end included: what `list --numbers` prints and `pack` reads.
unfoldable pub numbers_line : Numbers → List ℕ
numbers_line x = decimal x.code ++ spaced (own_numbers x) ++ bytes_of_text "\n"
