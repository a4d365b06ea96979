-- Places of a text, as the reader looks for them: the word at one, byte for byte, and digits behind a value.
use Prim.Native.Nat.{ℕ, zero, suc, ◌+◌, ◌≤◌, ◌<◌}
use mathlib.Core.Path.{◌≡◌, refl, sym, ap}
use mathlib.Core.Bool.{Bool, true, false, cond, ◌&&◌}
use mathlib.Core.Logic.{⊎_elim}
use mathlib.Core.List.{List, [], ◌∷◌}
use native.Mathlib.Nat.{add-zero}
use native.Mathlib.Numerals.{add-one, one-add}
use native.Mathlib.Omega.{arith}
use borrow.Author.Tests.{lt-ltb, ne_eqb}
use lib.Dec.{eqb}
use lib.ListN.{length, drop, get_or, drop_of_length-le, get_or-eq_default}
use Rattle.std.specs.List.{position_or_len}
use Rattle.std.specs.Option.{ok_or}
use Rattle.std.proofs.Common.{◌∙◌, Result, Ok, Err, Option, Some, None}
use Rattle.std.proofs.lemmas.List.{drop_more}
use Rattle.bits.specs.Bits.{one_of}
use Rattle.bits.proofs.Cases.{below_or_not, either, never}
use Rattle.text.specs.Text.{bytes_of_text}
use Rattle.notation.specs.declared.Problem.{Problem}
use Rattle.notation.specs.declared.Problem.TheVariants.{NoNumber, TooLarge}
use Rattle.notation.specs.Text.{digit_of, appended}
use Rattle.notation.specs.Words.{separating, word_in, is_prefixed, Meaning, onward, digits_of, whole_words}
use Rattle.notation.specs.Places.{located, line_length}

-- The bytes before a line's end.
pub line_place : (s : List ℕ) → position_or_len (λ b. eqb b 10) s ≡ line_length s
unfolding line_length
line_place [] = refl
line_place (b ∷ s) = ⊎_elim (λ (e : eqb b 10 ≡ true). rw e) (λ (e : eqb b 10 ≡ false). rw (e, one-add, line_place s)) (either (eqb b 10))

-- Bytes that separate no words change nothing.
passed_over : (s : List ℕ) (i k : ℕ) → i ≤ k → ((j : ℕ) → i ≤ j → j < k → separating (get_or s j 0) ≡ false) → whole_words s k ≡ whole_words s i
unfolding whole_words
passed_over s i zero h f = let none : 0 ≡ i = omega arith in ap (whole_words s) none
passed_over s i (suc k) h f =
    ⊎_elim (λ (l : k < i). let all : suc k ≡ i = omega arith in ap (whole_words s) all)
    (λ (l : i ≤ k). let here = f k l (omega arith) in rw here (passed_over s i k l (λ j a b. f j a (omega arith))))
    (below_or_not k i)

pub last_separating : (s : List ℕ) (i : ℕ) → i < length s → separating (get_or s i 0) ≡ true
    → ((j : ℕ) → i < j → j < length s → separating (get_or s j 0) ≡ false)
    → i + 1 ≡ whole_words s (length s)
unfolding whole_words
last_separating s i h e f = rw (add-one, passed_over s (suc i) (length s) (omega arith) (λ j a b. f j (omega arith) b), e)

pub none_separating : (s : List ℕ) → ((j : ℕ) → j < length s → separating (get_or s j 0) ≡ false) → 0 ≡ whole_words s (length s)
unfolding whole_words
none_separating s f = sym (passed_over s 0 (length s) (omega arith) (λ j a b. f j b))

pub from_byte : (s : List ℕ) (i : ℕ) → i < length s → drop i s ≡ get_or s i 0 ∷ drop (i + 1) s
from_byte s i h = drop_more s i 0 h

-- What separates words stands below the digits.
pub above_plain : (b : ℕ) → 48 ≤ b → separating b ≡ false
above_plain b h =
    rw (ne_eqb b 13 (omega arith), ne_eqb b 9 (omega arith), ne_eqb b 32 (omega arith), ne_eqb b 35 (omega arith), ne_eqb b 47 (omega arith), ne_eqb b 10 (omega arith))

pub digit_plain : (base b digit : ℕ) → digit_of base b ≡ Some digit → separating b ≡ false
digit_plain base b digit e =
    ⊎_elim (λ (l : b < 48). let none = rw (lt-ltb b 48 l) at e in never (cc)) (above_plain b) (below_or_not b 48)

pub word_past : (s : List ℕ) (i : ℕ) → length s ≤ i → word_in (drop i s) ≡ []
unfolding word_in
word_past s i h = rw (drop_of_length-le s h)

pub word_ends : (s : List ℕ) (i : ℕ) → i < length s → separating (get_or s i 0) ≡ true → word_in (drop i s) ≡ []
unfolding word_in
word_ends s i h e = rw (from_byte s i h, e)

pub word_goes : (s : List ℕ) (i : ℕ) → i < length s → separating (get_or s i 0) ≡ false
    → word_in (drop i s) ≡ get_or s i 0 ∷ word_in (drop (i + 1) s)
unfolding word_in
word_goes s i h e = rw (from_byte s i h, e)

-- Whether a word starts with 0x, told from the text's bytes.
second_x : (s : List ℕ) (i : ℕ) → one_of (bytes_of_text "xX") (get_or (word_in (drop i s)) 0 0) ≡ one_of (bytes_of_text "xX") (get_or s i 0)
second_x s i = ⊎_elim within (λ (h : length s ≤ i). rw (word_past s i h, get_or-eq_default s 0 h)) (below_or_not i (length s))
  where
    low : get_or s i 0 < 48 → one_of (bytes_of_text "xX") (get_or s i 0) ≡ false
    low l = rw (ne_eqb (get_or s i 0) 88 (omega arith), ne_eqb (get_or s i 0) 120 (omega arith))

    within : i < length s → one_of (bytes_of_text "xX") (get_or (word_in (drop i s)) 0 0) ≡ one_of (bytes_of_text "xX") (get_or s i 0)
    within h =
        ⊎_elim (λ (e : separating (get_or s i 0) ≡ true).
        ⊎_elim (λ (l : get_or s i 0 < 48). rw (word_ends s i h e, low l))
        (λ (g : 48 ≤ get_or s i 0). never (cc (above_plain (get_or s i 0) g)))
        (below_or_not (get_or s i 0) 48))
        (λ (e : separating (get_or s i 0) ≡ false). rw (word_goes s i h e))
        (either (separating (get_or s i 0)))

pub prefix_told : (s : List ℕ) (i : ℕ) → i < length s
    → eqb (get_or s i 0) 48 && one_of (bytes_of_text "xX") (get_or s (i + 1) 0) ≡ is_prefixed (word_in (drop i s))
unfolding is_prefixed
prefix_told s i h =
    ⊎_elim (λ (l : get_or s i 0 < 48). rw (ne_eqb (get_or s i 0) 48 (omega arith)) (sym (low l)))
    (λ (g : 48 ≤ get_or s i 0). rw (word_goes s i h (above_plain (get_or s i 0) g), second_x s (i + 1)))
    (below_or_not (get_or s i 0) 48)
  where
    low : get_or s i 0 < 48 → eqb (get_or (word_in (drop i s)) 0 0) 48 && one_of (bytes_of_text "xX") (get_or (word_in (drop i s)) 1 0) ≡ false
    low l =
        ⊎_elim (λ (e : separating (get_or s i 0) ≡ true). rw (word_ends s i h e))
        (λ (e : separating (get_or s i 0) ≡ false). rw (word_goes s i h e, ne_eqb (get_or s i 0) 48 (omega arith)))
        (either (separating (get_or s i 0)))

and_false : (t : Bool) → false ≡ t && false
and_false true = refl
and_false false = refl

pub prefix_short : (s : List ℕ) (i : ℕ) → i < length s → length s ≤ i + 1 → false ≡ is_prefixed (word_in (drop i s))
prefix_short s i h l = and_false (eqb (get_or s i 0) 48) ∙ rw (get_or-eq_default s 0 l) at (prefix_told s i h)

-- A word that starts with 0x goes on behind it.
some_byte : (s : List ℕ) (i : ℕ) → (get_or (word_in (drop i s)) 0 0 ≡ 0 → ⊥)
    → (i < length s) × (word_in (drop i s) ≡ get_or s i 0 ∷ word_in (drop (i + 1) s))
some_byte s i n =
    ⊎_elim (λ (h : i < length s).
    ⊎_elim (λ (e : separating (get_or s i 0) ≡ true). absurd (n (rw (word_ends s i h e))))
    (λ (e : separating (get_or s i 0) ≡ false). (h, word_goes s i h e))
    (either (separating (get_or s i 0))))
    (λ (h : length s ≤ i). absurd (n (rw (word_past s i h))))
    (below_or_not i (length s))

and_true : (t u : Bool) → t && u ≡ true → (t ≡ true) × (u ≡ true)
and_true true u e = (refl, e)
and_true false u e = never (cc)

pub record Prefix (s : List ℕ) (i : ℕ) : Type 0 where
  pub within : i + 1 < length s
  pub rest : drop 2 (word_in (drop i s)) ≡ word_in (drop (i + 2) s)
  pub size : i + length (word_in (drop i s)) ≡ i + 2 + length (word_in (drop (i + 2) s))

pub prefix_split : (s : List ℕ) (i : ℕ) → is_prefixed (word_in (drop i s)) ≡ true → Prefix s i
unfolding is_prefixed
prefix_split s i e =
    let word = word_in (drop i s) in
    let tests = and_true (eqb (get_or word 0 0) 48) (one_of (bytes_of_text "xX") (get_or word 1 0)) e in
    let first = some_byte s i (λ (z : get_or word 0 0 ≡ 0). let t = rw z at tests.0 in never (cc)) in
    let told = rw first.1 at tests.1 in
    let second = some_byte s (i + 1) (λ (z : get_or (word_in (drop (i + 1) s)) 0 0 ≡ 0). let t = rw z at told in never (cc)) in
    let two : i + 1 + 1 ≡ i + 2 = omega arith in
    let tail = rw two at second.1 in
    record { within = second.0; rest = rw (first.1, tail); size = rw (first.1, tail) (omega arith) }

-- What the rest of a word from a place on is, behind a value.
abbrev pub number_from : ℕ → List ℕ → ℕ → ℕ → Result (ℕ × ℕ) Problem
number_from base s i value = located (drop i s) i (digits_of base value (word_in (drop i s)))

module _ (base : ℕ) (s : List ℕ) (i value : ℕ) where
  pub number_past : length s ≤ i → number_from base s i value ≡ Ok (value, i)
  unfolding digits_of
  number_past h = rw (word_past s i h, word_past s i h, add-zero)

  -- A byte that is no digit of the base.
  pub number_ends : i < length s → digit_of base (get_or s i 0) ≡ None
      → number_from base s i value ≡ cond (separating (get_or s i 0)) (Ok (value, i)) (Err NoNumber)
  unfolding digits_of
  number_ends h d =
      ⊎_elim (λ (e : separating (get_or s i 0) ≡ true). rw (word_ends s i h e, word_ends s i h e, e, add-zero))
      (λ (e : separating (get_or s i 0) ≡ false). rw (word_goes s i h e, d, e))
      (either (separating (get_or s i 0)))

  -- A digit.
  module _ (h : i < length s) (digit : ℕ) (is : digit_of base (get_or s i 0) ≡ Some digit) where
    goes : word_in (drop i s) ≡ get_or s i 0 ∷ word_in (drop (i + 1) s)
    goes = word_goes s i h (digit_plain base (get_or s i 0) digit is)

    with_one : (a : Option ℕ) → appended base value digit ≡ a
        → digits_of base value (word_in (drop i s)) ≡ onward (λ more. digits_of base more (word_in (drop (i + 1) s))) (ok_or a TooLarge)
    unfolding digits_of
    with_one a e = rw (goes, is) (ap (λ x. onward (λ more. digits_of base more (word_in (drop (i + 1) s))) (ok_or x TooLarge)) e)

    further : (m : Meaning) → located (drop i s) i m ≡ located (drop (i + 1) s) (i + 1) m
    further (Ok n) =
        let sum : i + suc (length (word_in (drop (i + 1) s))) ≡ i + 1 + length (word_in (drop (i + 1) s)) = omega arith in rw (goes, sum)
    further (Err problem) = refl

    pub number_goes : (more : ℕ) → appended base value digit ≡ Some more → number_from base s i value ≡ number_from base s (i + 1) more
    number_goes more e = ap (located (drop i s) i) (with_one (Some more) e) ∙ further (digits_of base more (word_in (drop (i + 1) s)))

    pub number_over : appended base value digit ≡ None → number_from base s i value ≡ Err TooLarge
    number_over e = ap (located (drop i s) i) (with_one None e)
