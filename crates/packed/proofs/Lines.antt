-- A line of `list --numbers` is read as its operation.
use Prim.Native.Nat.{ℕ, zero, suc, ◌+◌, ◌≤◌, ◌<◌}
use mathlib.Core.Path.{◌≡◌, refl, ◌∙◌}
use mathlib.Core.Bool.{false}
use mathlib.Core.List.{List, [], ◌∷◌, ◌++◌, append_assoc, append-nil}
use native.Mathlib.Omega.{arith}
use borrow.Author.Tests.{ne_eqb}
use lib.ListN.{length}
use Rattle.std.proofs.Common.{Ok}
use Rattle.text.specs.Text.{decimal}
use Rattle.operation.specs.Operation.{last_code}
use Rattle.recording.specs.declared.Numbers.{Numbers}
use Rattle.recording.specs.Recording.{field_count, numbers, own_numbers}
use Rattle.recording.specs.Operations.{as_read}
use Rattle.recording.proofs.Laws.{Words, Writable}
use Rattle.notation.specs.declared.Begun.{Begun}
use Rattle.notation.specs.declared.Step.TheVariants.{More, Operation}
use Rattle.notation.specs.Text.{spaced}
use Rattle.notation.specs.Words.{ends_operation, meaning_of}
use Rattle.notation.specs.Reading.{none_begun, added, ended_at, read_from}
use Rattle.packed.proofs.Digits.{Plain, none, byte, plain_decimal, some_decimal, decimal_number}

-- An operation with several numbers more.
abbrev pub added_all : Begun → List ℕ → Begun
added_all begun [] = begun
added_all begun (n ∷ list) = added_all (added begun n) list

-- Digits are gathered to a word.
gathered : {w : List ℕ} → Plain w → (begun : Begun) (word rest : List ℕ) (at : ℕ)
    → read_from begun word (w ++ rest) at ≡ read_from begun (word ++ w) rest at
unfolding read_from
gathered none begun word rest at = rw append-nil
gathered (byte {b} {w} l h p) begun word rest at =
    rw (
      ne_eqb b 13 (omega arith),
      ne_eqb b 9 (omega arith),
      ne_eqb b 32 (omega arith),
      ne_eqb b 35 (omega arith),
      ne_eqb b 47 (omega arith),
      ne_eqb b 10 (omega arith),
    )
    (gathered p begun (word ++ (b ∷ [])) rest at ∙ rw append_assoc)

-- A number, at the text's end and before a blank.
number_last : (begun : Begun) (word : List ℕ) (n at : ℕ) → 0 < length word → meaning_of word ≡ Ok n
    → read_from begun word [] at ≡ Ok (More (added begun n))
unfolding read_from
number_last begun [] n at some e = absurd (omega arith)
number_last begun (a ∷ w) n at some e = rw e

number_blank : (begun : Begun) (word text : List ℕ) (n at : ℕ) → 0 < length word → meaning_of word ≡ Ok n
    → read_from begun word (32 ∷ text) at ≡ read_from (added begun n) [] text (at + length word + 1)
unfolding read_from
number_blank begun [] text n at some e = absurd (omega arith)
number_blank begun (a ∷ w) text n at some e = rw e

-- A number and those behind it.
read_spaced : (list : List ℕ) (begun : Begun) (word : List ℕ) (n at : ℕ) → 0 < length word → meaning_of word ≡ Ok n → Words list
    → read_from begun word (spaced list) at ≡ Ok (More (added_all begun (n ∷ list)))
unfolding spaced
read_spaced [] begun word n at some e small = number_last begun word n at some e
read_spaced (m ∷ list) begun word n at some e small =
    number_blank begun word (decimal m ++ spaced list) n at some e
    ∙ gathered (plain_decimal m) (added begun n) [] (spaced list) (at + length word + 1)
    ∙ read_spaced list (added begun n) (decimal m) m (at + length word + 1) (some_decimal m) (decimal_number m (small 0)) (λ i. small (suc i))

pub read_line : (x : Numbers) → Writable x
    → read_from none_begun [] (decimal x.code ++ spaced (own_numbers x)) 0 ≡ Ok (More (added_all none_begun (x.code ∷ own_numbers x)))
read_line x w =
    gathered (plain_decimal x.code) none_begun [] (spaced (own_numbers x)) 0
    ∙ read_spaced (own_numbers x) none_begun (decimal x.code) x.code 0 (some_decimal x.code)
    (decimal_number x.code (omega (arith, w.known)))
    w.small

-- The numbers of an operation make it.
own_made : (code cycles a b c d : ℕ) → code ≤ last_code
    → ended_at (added_all none_begun (code ∷ own_numbers (numbers code cycles a b c d))) 0 ≡ Ok (Operation (as_read (numbers code cycles a b c d)) 0)
unfolding added ended_at field_count
own_made zero cycles a b c d h = refl
own_made (suc zero) cycles a b c d h = refl
own_made (suc (suc zero)) cycles a b c d h = refl
own_made (suc (suc (suc zero))) cycles a b c d h = refl
own_made (suc (suc (suc (suc zero)))) cycles a b c d h = refl
own_made (suc (suc (suc (suc (suc zero))))) cycles a b c d h = refl
own_made (suc (suc (suc (suc (suc (suc zero)))))) cycles a b c d h = refl
own_made (suc (suc (suc (suc (suc (suc (suc zero))))))) cycles a b c d h = refl
own_made (suc (suc (suc (suc (suc (suc (suc (suc zero)))))))) cycles a b c d h = refl
own_made (suc (suc (suc (suc (suc (suc (suc (suc (suc zero))))))))) cycles a b c d h = refl
own_made (suc (suc (suc (suc (suc (suc (suc (suc (suc (suc zero)))))))))) cycles a b c d h = refl
own_made (suc (suc (suc (suc (suc (suc (suc (suc (suc (suc (suc code))))))))))) cycles a b c d h = absurd (omega arith)

pub line_made : (x : Numbers) → Writable x → ended_at (added_all none_begun (x.code ∷ own_numbers x)) 0 ≡ Ok (Operation (as_read x) 0)
line_made x w = own_made x.code x.cycles x.a x.b x.c x.d w.known

-- Bytes that end no operation.
pub data Inside : List ℕ → Type 0 where
  nothing : Inside []
  more : {b : ℕ} {w : List ℕ} → ends_operation b ≡ false → Inside w → Inside (b ∷ w)

inside_both : {v w : List ℕ} → Inside v → Inside w → Inside (v ++ w)
inside_both nothing q = q
inside_both (more e p) q = more e (inside_both p q)

inside_plain : {w : List ℕ} → Plain w → Inside w
inside_plain none = nothing
inside_plain (byte {b} l h p) =
    let inside : ends_operation b ≡ false = rw (ne_eqb b 35 (omega arith), ne_eqb b 47 (omega arith), ne_eqb b 10 (omega arith)) in
    more inside (inside_plain p)

inside_spaced : (list : List ℕ) → Inside (spaced list)
unfolding spaced
inside_spaced [] = nothing
inside_spaced (n ∷ list) = more refl (inside_both (inside_plain (plain_decimal n)) (inside_spaced list))

pub inside_line : (x : Numbers) → Inside (decimal x.code ++ spaced (own_numbers x))
inside_line x = inside_both (inside_plain (plain_decimal x.code)) (inside_spaced (own_numbers x))
