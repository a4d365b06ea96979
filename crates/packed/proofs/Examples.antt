-- Texts and what they hold, computed.
use mathlib.Core.Path.{◌≡◌, refl}
use mathlib.Core.List.{[], ◌∷◌}
use Rattle.text.specs.Text.{bytes_of_text, digits, decimal_count, decimal}
use Rattle.recording.specs.Recording.{field_count, numbers}
use Rattle.notation.specs.Text.{spaced, numbers_line}
use Rattle.notation.specs.declared.Problem.TheVariants.{NoNumber, TooLarge, Count}
use Rattle.notation.specs.Words.{digits_of, is_prefixed, meaning_of}
use Rattle.notation.specs.Reading.{added, ended_at, read_from}
use Rattle.packed.specs.Content.{uncommented, pieces, complete, stopped, content_of_all, content_of, numbers_lines}

-- A blank line, a comment, a / and hexadecimal; a line of its own for each problem.
pub example : content_of (bytes_of_text "# one / 9\n\n7 0x1F / 4\t00 0XfF # 0xg\r\n7 0")
    ≡ record { operations = numbers 7 31 0 0 0 0 ∷ numbers 4 0 255 0 0 0 ∷ numbers 7 0 0 0 0 0 ∷ []; ending = complete }
unfolding content_of content_of_all pieces uncommented read_from ended_at added meaning_of is_prefixed digits_of field_count
example = refl

pub letters : content_of (bytes_of_text "7 0\n4 0 1a\n7 0") ≡ record { operations = numbers 7 0 0 0 0 0 ∷ []; ending = stopped NoNumber }
unfolding content_of content_of_all pieces uncommented read_from ended_at added meaning_of is_prefixed digits_of field_count
letters = refl

pub large : content_of (bytes_of_text "4 0 18446744073709551616") ≡ record { operations = []; ending = stopped TooLarge }
unfolding content_of content_of_all pieces uncommented read_from ended_at added meaning_of is_prefixed digits_of field_count
large = refl

pub extra : content_of (bytes_of_text "4 0 18446744073709551615 / 7 0 1") ≡ record { operations = numbers 4 0 18446744073709551615 0 0 0 ∷ []; ending = stopped (Count 7 3) }
unfolding content_of content_of_all pieces uncommented read_from ended_at added meaning_of is_prefixed digits_of field_count
extra = refl

-- A line of `list --numbers`.
pub line : numbers_lines (numbers 1 300 0 0 4100 4112 ∷ numbers 5 0 32 9 9 9 ∷ []) ≡ bytes_of_text "1 300 0 0 4100 4112\n5 0 32\n"
unfolding numbers_lines numbers_line spaced decimal decimal_count digits field_count
line = refl
