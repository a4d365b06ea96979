-- Words of a text: what cuts them, and which number a word is. docs/MANUAL.md, "Programs".
use Rattle.std.specs.Prelude.{ℕ, zero, suc, Bool, cond, ◌||◌, ◌&&◌, List, [], ◌∷◌, eqb, get_or, drop, Result, Ok, Err}
use Rattle.std.specs.Option.{ok_or}
use Rattle.bits.specs.Bits.{one_of}
use Rattle.text.specs.Text.{bytes_of_text}
use Rattle.notation.specs.declared.Problem.{Problem}
use Rattle.notation.specs.declared.Problem.TheVariants.{NoNumber, TooLarge}
use Rattle.notation.specs.Text.{digit_of, appended}

-- White space inside a line.
abbrev pub is_blank : ℕ → Bool
is_blank b = one_of (bytes_of_text " \t\r") b

-- What ends an operation: a line's end, a / and the # of a comment.
abbrev pub ends_operation : ℕ → Bool
ends_operation b = one_of (bytes_of_text "\n/#") b

-- What no word holds.
abbrev pub separating : ℕ → Bool
separating b = is_blank b || ends_operation b

-- The word in front of a text: its bytes up to the first that separates words.
unfoldable pub word_in : List ℕ → List ℕ
word_in [] = []
word_in (b ∷ text) = cond (separating b) [] (b ∷ word_in text)

-- What a word is: a number, or what is wrong with it.
abbrev pub Meaning : Type 0
Meaning = Result ℕ Problem

-- What follows a value, where nothing is wrong with it.
abbrev pub onward : (ℕ → Meaning) → Meaning → Meaning
onward rest (Ok value) = rest value
onward rest (Err problem) = Err problem

-- A value with a digit of a base more.
abbrev pub with_digit : ℕ → ℕ → ℕ → Meaning
with_digit base value b = onward (λ digit. ok_or (appended base value digit) TooLarge) (ok_or (digit_of base b) NoNumber)

-- Digits in a base, behind digits that come to the value.
unfoldable pub digits_of : ℕ → ℕ → List ℕ → Meaning
digits_of base value [] = Ok value
digits_of base value (b ∷ word) = onward (λ more. digits_of base more word) (with_digit base value b)

-- What follows 0x: at least a digit.
abbrev pub prefixed : List ℕ → Meaning
prefixed [] = Err NoNumber
prefixed (b ∷ word) = digits_of 16 0 (b ∷ word)

-- A word that starts with 0x or 0X.
unfoldable pub is_prefixed : List ℕ → Bool
is_prefixed word = eqb (get_or word 0 0) 48 && one_of (bytes_of_text "xX") (get_or word 1 0)

-- What a word is: a number in hexadecimal or in decimal, or wrong.
unfoldable pub meaning_of : List ℕ → Meaning
meaning_of word = cond (is_prefixed word) (prefixed (drop 2 word)) (digits_of 10 0 word)

-- The bytes up to the last that separates words, of the first so many.
unfoldable pub whole_words : List ℕ → ℕ → ℕ
whole_words text zero = 0
whole_words text (suc k) = cond (separating (get_or text k 0)) (suc k) (whole_words text k)
