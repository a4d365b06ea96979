-- Words and lines' ends at the places of a text, as the reader passes them.
use Rattle.std.specs.Prelude.{ℕ, suc, ◌+◌, cond, List, [], ◌∷◌, eqb, length, Result, Ok, Err}
use Rattle.notation.specs.declared.Problem.{Problem}
use Rattle.notation.specs.Words.{word_in, Meaning}

-- What the word in front of a text is, and the place after it where it starts at a place.
abbrev pub located : List ℕ → ℕ → Meaning → Result (ℕ × ℕ) Problem
located text at (Ok n) = Ok (n, at + length (word_in text))
located text at (Err problem) = Err problem

-- How many bytes stand before the first line's end.
unfoldable pub line_length : List ℕ → ℕ
line_length [] = 0
line_length (b ∷ text) = cond (eqb b 10) 0 (suc (line_length text))
