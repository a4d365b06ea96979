-- How long what is printed is.
use Rattle.std.proofs.Common.{ℕ, ◌+◌, ◌*◌, ◌%◌, ◌^◌, ◌≤◌, Bool, true, false, cond, eqb, List, [], ◌∷◌, length, arith, length-append}
use Rattle.text.specs.Text.{bytes_of_text}
use Rattle.text.proofs.Laws.{length-decimal}
use Rattle.notation.specs.Text.{spaced}
use Rattle.recording.specs.declared.Numbers.{Numbers}
use Rattle.readable.specs.Readable.{readable_line, line_of}
use Rattle.readable.proofs.Laws.{either, length-spaced, length_line}
use Rattle.compare.specs.declared.Rest.{Rest}
use Rattle.difference.proofs.Laws.{short_differing}
use Rattle.comparison.specs.declared.Told.{Told}
use Rattle.comparison.specs.Comparison.{unequal_lines, left_line, last_line, lines, numbers_of, told}

plural : (n : ℕ) → length (cond (eqb n 1) [] (bytes_of_text "s")) ≤ 1
plural n = either (eqb n 1) [] (bytes_of_text "s") 1 (omega arith) (omega arith)

short_readable : (x : Numbers) → length (readable_line x) ≤ 256
unfolding line_of
short_readable x = length_line false x

short_unequal : (t : Told) → length (unequal_lines t) ≤ 1000
unfolding unequal_lines
short_unequal t =
    simp length-append
    (omega (arith, length-decimal ((t.parting.equal + 1) % 2 ^ 64), short_differing t.x.code t.parting.differing, short_readable t.x, short_readable t.y))

short_left : (opening : List ℕ) (left : ℕ) (rest : Rest) → length opening ≤ 64 → length (left_line opening left rest) ≤ 200
short_left opening left rest h =
    simp length-append (omega (arith, h, length-decimal left, plural left, length-decimal rest.length, length-decimal rest.at))

short_last : (t : Told) → length (last_line t) ≤ 200
unfolding last_line
short_last t =
    let r = t.parting.rest in
    let first = bytes_of_text "the first ends first; left of the second: " in
    let second = bytes_of_text "the second ends first; left of the first: " in
    let neither = cond (eqb t.parting.differing 0) (bytes_of_text "no difference\n") (bytes_of_text "neither ends first\n") in
    either (eqb t.parting.ending 1) (left_line first t.left r) (cond (eqb t.parting.ending 2) (left_line second t.left r) neither) 200
    (short_left first t.left r (omega arith))
    (either (eqb t.parting.ending 2) (left_line second t.left r) neither 200 (short_left second t.left r (omega arith))
    (either (eqb t.parting.differing 0) (bytes_of_text "no difference\n") (bytes_of_text "neither ends first\n") 200 (omega arith) (omega arith)))

pub short_told : (numbers : Bool) (t : Told) → length (told numbers t) ≤ 2000
unfolding told lines numbers_of
short_told true t =
    let p = t.parting in
    let list = p.which ∷ p.at ∷ p.equal ∷ p.ending ∷ p.differing ∷ p.rest.of ∷ p.rest.at ∷ p.rest.length ∷ [] in
    let rest : length (spaced list) ≤ 21 * 8 = length-spaced list in
    simp length-append (omega (arith, length-decimal p.number, rest))
short_told false t =
    let pair = either (eqb t.parting.differing 0) [] (unequal_lines t) 1000 (omega arith) (short_unequal t) in
    simp length-append (omega (arith, length-decimal t.parting.equal, plural t.parting.equal, pair, short_last t))
