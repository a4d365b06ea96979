-- What the reader of an operation answers stands in front of what the rest of the text holds: read from operation to
-- operation, a text gives what it holds.
use Prim.Native.Nat.{ℕ, ◌+◌}
use mathlib.Core.Path.{◌≡◌, refl, sym, ◌∙◌}
use mathlib.Core.Bool.{true, false}
use mathlib.Core.Logic.{⊎_elim}
use mathlib.Core.List.{List, [], ◌∷◌, ◌++◌}
use lib.Dec.{ltb, eqb}
use lib.ListN.{length, drop}
use Rattle.std.proofs.Common.{Ok, Err}
use Rattle.bits.proofs.Cases.{either}
use Rattle.operation.specs.Operation.{last_code}
use Rattle.recording.specs.Recording.{field_count}
use Rattle.notation.specs.declared.Begun.{Begun}
use Rattle.notation.specs.declared.Step.TheVariants.{More}
use Rattle.notation.specs.Words.{is_blank, ends_operation, Meaning, meaning_of}
use Rattle.notation.specs.Places.{line_length}
use Rattle.notation.specs.Reading.{Outcome, added, ended_at, with_meaning, with_word, read_from}
use Rattle.notation.proofs.Reading.{end_no_blank}
use Rattle.packed.specs.Content.{Content, uncommented, pieces, in_front, at_end, content_of_all, content_from}
use Rattle.packed.proofs.Lines.{Inside, nothing, more}
use Rattle.packed.proofs.Pieces.{uncommented_inside, uncommented_whole, pieces_before, pieces_last}

-- The place of an operation's end is no part of what the text holds.
ended_anywhere : (rest : Content) (begun : Begun) (at to : ℕ) → in_front rest (ended_at begun at) ≡ in_front rest (ended_at begun to)
unfolding ended_at
ended_anywhere rest begun at to =
    ⊎_elim (λ (e : eqb begun.count 0 ≡ true). rw e)
    (λ (e : eqb begun.count 0 ≡ false).
    ⊎_elim (λ (f : ltb last_code begun.numbers.code ≡ true). rw (e, f))
    (λ (f : ltb last_code begun.numbers.code ≡ false).
    ⊎_elim (λ (g : eqb begun.count (field_count begun.numbers.code + 2) ≡ true). rw (e, f, g))
    (λ (g : eqb begun.count (field_count begun.numbers.code + 2) ≡ false). rw (e, f, g))
    (either (eqb begun.count (field_count begun.numbers.code + 2))))
    (either (ltb last_code begun.numbers.code)))
    (either (eqb begun.count 0))

-- Behind a word, where what follows each number agrees.
both_words : (rest : Content) (begun : Begun) (word : List ℕ) (at to : ℕ) (f g : Begun → Outcome)
    → ((next : Begun) → in_front rest (f next) ≡ in_front rest (at_end (g next)))
    → in_front rest (with_word begun word at f) ≡ in_front rest (at_end (with_word begun word to g))
both_words rest begun [] at to f g same = same begun
both_words rest begun (b ∷ word) at to f g same = go (meaning_of (b ∷ word))
  where
    go : (m : Meaning) → in_front rest (with_meaning begun at f m) ≡ in_front rest (at_end (with_meaning begun to g m))
    go (Ok n) = same (added begun n)
    go (Err problem) = refl

ahead : {w : List ℕ} → Inside w → (rest : Content) (b : ℕ) (text : List ℕ) → ends_operation b ≡ true → (begun : Begun) (word : List ℕ) (at to : ℕ)
    → in_front rest (read_from begun word (w ++ (b ∷ text)) at) ≡ in_front rest (at_end (read_from begun word w to))
unfolding read_from
ahead nothing rest b text e begun word at to =
    rw (end_no_blank b e, e)
    (both_words rest begun word at to (λ next. ended_at next (at + length word)) (λ next. Ok (More next)) (λ next. ended_anywhere rest next (at + length word) 0))
ahead (more {b = a} {w} f p) rest b text e begun word at to =
    ⊎_elim (λ (t : is_blank a ≡ true).
    rw t
    (both_words rest begun word at to (λ next. read_from next [] (w ++ (b ∷ text)) (at + length word + 1)) (λ next. read_from next [] w (to + length word + 1))
    (λ next. ahead p rest b text e next [] (at + length word + 1) (to + length word + 1))))
    (λ (t : is_blank a ≡ false). rw (t, f) (ahead p rest b text e begun (word ++ (a ∷ [])) at to))
    (either (is_blank a))

-- An operation's end: what is read up to it stands in front of what the text holds behind it.
pub reads_ahead : {w : List ℕ} → Inside w → (b : ℕ) (text : List ℕ) → ends_operation b ≡ true → (begun : Begun) (at : ℕ)
    → content_from begun (uncommented false (w ++ (b ∷ text)))
    ≡ in_front (content_of_all (pieces (uncommented (eqb b 35) text))) (read_from begun [] (w ++ (b ∷ text)) at)
unfolding content_from uncommented
reads_ahead {w} p b text e begun at =
    rw (uncommented_inside p (b ∷ text), pieces_before p b (uncommented (eqb b 35) text) e)
    (sym (ahead p (content_of_all (pieces (uncommented (eqb b 35) text))) b text e begun [] at 0))

-- The text's end ends its last operation.
pub reads_last : {w : List ℕ} → Inside w → (begun : Begun) (at : ℕ)
    → content_from begun (uncommented false w) ≡ in_front (content_of_all []) (at_end (read_from begun [] w at))
unfolding content_from
reads_last {w} p begun at =
    rw (uncommented_whole p, pieces_last p)
    (sym (ahead p (content_of_all []) 10 [] refl begun [] 0 0) ∙ ahead p (content_of_all []) 10 [] refl begun [] 0 at)

-- A comment is passed up to its line's end.
pub comment_passed : (text : List ℕ) → uncommented true text ≡ uncommented false (drop (line_length text) text)
unfolding uncommented line_length
comment_passed [] = refl
comment_passed (b ∷ text) =
    ⊎_elim (λ (e : eqb b 10 ≡ true). rw e) (λ (e : eqb b 10 ≡ false). rw e (comment_passed text)) (either (eqb b 10))
