-- Texts and numbers as bytes, in ASCII: what the programs print (document 01, "Recordings"; docs/MANUAL.md, "Programs").
use Rattle.std.specs.Prelude.{ℕ, zero, suc, ◌+◌, ◌/◌, ◌%◌, cond, List, [], ◌∷◌, ◌++◌, ltb}
use Prim.Native.Char.{code}
use Prim.Native.String.{String, [] as nothing, ◌∷◌ as join}

-- The bytes of a text.
abbrev pub bytes_of_text : String → List ℕ
bytes_of_text nothing = []
bytes_of_text (join c text) = code c ∷ bytes_of_text text

-- The digit of a number below 16: 0 to 9, then a to f.
abbrev pub digit : ℕ → ℕ
digit n = cond (ltb n 10) (48 + n) (87 + n)

-- The lowest so many digits of n in a base, highest first.
unfoldable pub digits : ℕ → ℕ → ℕ → List ℕ
digits base zero n = []
digits base (suc count) n = digits base count (n / base) ++ (digit (n % base) ∷ [])

-- How many digits n has in a base, where it has at most so many. 0 has one.
abbrev pub digit_count : ℕ → ℕ → ℕ → ℕ
digit_count base zero n = 0
digit_count base (suc most) n = cond (ltb n base) 1 (suc (digit_count base most (n / base)))

-- How many decimal digits n has, where it has at most so many.
unfoldable pub decimal_count : ℕ → ℕ → ℕ
decimal_count most n = digit_count 10 most n

-- A number below 2^64, which has 20 digits at most, in decimal.
unfoldable pub decimal : ℕ → List ℕ
decimal n = digits 10 (decimal_count 20 n) n

-- The same in hexadecimal, where it has 16 digits at most, with no 0 in front that could be left out.
unfoldable pub hexadecimal : ℕ → List ℕ
hexadecimal n = digits 16 (digit_count 16 16 n) n
