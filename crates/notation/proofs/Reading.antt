-- Reading on, part by part: white space, a word, an operation's end.
use Prim.Native.Nat.{ℕ, ◌+◌, ◌≤◌, ◌<◌}
use mathlib.Core.Path.{◌≡◌, refl, ◌∙◌}
use mathlib.Core.Bool.{Bool, true, false, ◌||◌}
use mathlib.Core.Logic.{⊎_elim}
use mathlib.Core.List.{List, [], ◌∷◌, ◌++◌, append_assoc, append-nil}
use native.Mathlib.Nat.{add-zero}
use native.Mathlib.Omega.{arith}
use borrow.Author.Tests.{lt-ltb, le-ltb, eqb-true}
use lib.Dec.{eqb}
use lib.ListN.{length, drop, get_or, drop_of_length-le}
use lib.Seq.{drop-drop}
use Rattle.std.proofs.Common.{Ok, Err}
use Rattle.operation.specs.Operation.{last_code}
use Rattle.recording.specs.Recording.{field_count}
use Rattle.bits.proofs.Cases.{either, never, one_of_two, below_or_not}
use Rattle.notation.specs.declared.Begun.{Begun}
use Rattle.notation.specs.declared.Problem.{Problem}
use Rattle.notation.specs.declared.Step.TheVariants.{More}
use Rattle.notation.specs.Words.{is_blank, ends_operation, separating, word_in, Meaning, meaning_of}
use Rattle.notation.specs.Reading.{Outcome, wrong, added, ended_at, with_meaning, with_word, read_from, Known}
use Rattle.notation.proofs.Words.{from_byte, word_goes}

neither : (t u : Bool) → t || u ≡ false → (t ≡ false) × (u ≡ false)
neither true u e = never (cc)
neither false u e = (refl, e)

other : (t u : Bool) → t || u ≡ true → t ≡ false → u ≡ true
other true u e f = never (cc)
other false u e f = e

-- What ends an operation is no white space.
pub end_no_blank : (b : ℕ) → ends_operation b ≡ true → is_blank b ≡ false
end_no_blank b e =
    ⊎_elim (λ (f : eqb b 35 || eqb b 47 ≡ true).
    ⊎_elim (λ (g : eqb b 35 ≡ true). rw (eqb-true b 35 g)) (λ (g : eqb b 47 ≡ true). rw (eqb-true b 47 g)) (one_of_two (eqb b 35) (eqb b 47) f))
    (λ (f : eqb b 10 ≡ true). rw (eqb-true b 10 f))
    (one_of_two (eqb b 35 || eqb b 47) (eqb b 10) e)

-- The bytes of a word are gathered.
pub gathered : (text : List ℕ) (begun : Begun) (word : List ℕ) (at : ℕ)
    → read_from begun word text at ≡ read_from begun (word ++ word_in text) (drop (length (word_in text)) text) at
unfolding read_from word_in
gathered [] begun word at = rw append-nil
gathered (b ∷ text) begun word at =
    ⊎_elim (λ (e : separating b ≡ true). rw (e, append-nil))
    (λ (e : separating b ≡ false).
    let n = neither (is_blank b) (ends_operation b) e in
    rw (e, n.0, n.1) (gathered text begun (word ++ (b ∷ [])) at ∙ rw append_assoc))
    (either (separating b))

-- Behind a word stands nothing, or what separates words.
pub data Ends : List ℕ → Type 0 where
  nothing : Ends []
  byte : {b : ℕ} {text : List ℕ} → separating b ≡ true → Ends (b ∷ text)

pub behind_word : (text : List ℕ) → Ends (drop (length (word_in text)) text)
unfolding word_in
behind_word [] = nothing
behind_word (b ∷ text) =
    ⊎_elim (λ (e : separating b ≡ true). rw e (byte e))
    (λ (e : separating b ≡ false). rw e (behind_word text))
    (either (separating b))

module _ (begun : Begun) (a : ℕ) (w : List ℕ) (at : ℕ) where
  -- A word that is a number.
  pub number_word : (n : ℕ) {rest : List ℕ} → meaning_of (a ∷ w) ≡ Ok n → Ends rest
      → read_from begun (a ∷ w) rest at ≡ read_from (added begun n) [] rest (at + length (a ∷ w))
  unfolding read_from
  number_word n e nothing = rw e
  number_word n e (byte {b} {text} s) =
      ⊎_elim (λ (t : is_blank b ≡ true). rw (t, e, add-zero))
      (λ (t : is_blank b ≡ false). rw (t, other (is_blank b) (ends_operation b) s t, e, add-zero))
      (either (is_blank b))

  pub wrong_word : (problem : Problem) {rest : List ℕ} → meaning_of (a ∷ w) ≡ Err problem → Ends rest
      → read_from begun (a ∷ w) rest at ≡ wrong problem at
  unfolding read_from
  wrong_word problem e nothing = rw e
  wrong_word problem e (byte {b} {text} s) =
      ⊎_elim (λ (t : is_blank b ≡ true). rw (t, e))
      (λ (t : is_blank b ≡ false). rw (t, other (is_blank b) (ends_operation b) s t, e))
      (either (is_blank b))

-- The same of a word that has a byte.
number_behind : (begun : Begun) (word : List ℕ) (at n : ℕ) {rest : List ℕ} → 0 < length word → meaning_of word ≡ Ok n → Ends rest
    → read_from begun word rest at ≡ read_from (added begun n) [] rest (at + length word)
number_behind begun [] at n h = absurd (omega arith)
number_behind begun (a ∷ w) at n h = number_word begun a w at n

wrong_behind : (begun : Begun) (word : List ℕ) (at : ℕ) (problem : Problem) {rest : List ℕ} → 0 < length word → meaning_of word ≡ Err problem
    → Ends rest
    → read_from begun word rest at ≡ wrong problem at
wrong_behind begun [] at problem h = absurd (omega arith)
wrong_behind begun (a ∷ w) at problem h = wrong_word begun a w at problem

-- What stands at a place past the text's end.
pub past_at : (s : List ℕ) (at : ℕ) (begun : Begun) → length s ≤ at → read_from begun [] (drop at s) at ≡ Ok (More begun)
unfolding read_from
past_at s at begun h = rw (drop_of_length-le s h)

-- What stands at a place of the text.
module _ (s : List ℕ) (at : ℕ) (begun : Begun) (h : at < length s) where
  pub blank_at : is_blank (get_or s at 0) ≡ true → read_from begun [] (drop at s) at ≡ read_from begun [] (drop (at + 1) s) (at + 1)
  unfolding read_from
  blank_at e = rw (from_byte s at h, e, add-zero)

  pub end_at : is_blank (get_or s at 0) ≡ false → ends_operation (get_or s at 0) ≡ true → read_from begun [] (drop at s) at ≡ ended_at begun at
  unfolding read_from
  end_at e f = rw (from_byte s at h, e, f, add-zero)

  module _ (e : is_blank (get_or s at 0) ≡ false) (f : ends_operation (get_or s at 0) ≡ false) where
    pub word_here : word_in (drop at s) ≡ get_or s at 0 ∷ word_in (drop (at + 1) s)
    word_here = word_goes s at h (rw (e, f))

    whole : read_from begun [] (drop at s) at ≡ read_from begun (word_in (drop at s)) (drop (length (word_in (drop at s))) (drop at s)) at
    whole = gathered (drop at s) begun [] at

    some : 0 < length (word_in (drop at s))
    some = rw word_here (omega arith)

    pub number_at : (n : ℕ) → meaning_of (word_in (drop at s)) ≡ Ok n
        → read_from begun [] (drop at s) at
        ≡ read_from (added begun n) [] (drop (at + length (word_in (drop at s))) s) (at + length (word_in (drop at s)))
    number_at n m =
        whole ∙ number_behind begun (word_in (drop at s)) at n some m (behind_word (drop at s)) ∙ rw (drop-drop (length (word_in (drop at s))) at s)

    pub wrong_at : (problem : Problem) → meaning_of (word_in (drop at s)) ≡ Err problem → read_from begun [] (drop at s) at ≡ wrong problem at
    wrong_at problem m = whole ∙ wrong_behind begun (word_in (drop at s)) at problem some m (behind_word (drop at s))

-- What holds behind each number, and of a wrong word, holds behind a word.
through_word : (P : Outcome → Type 0) (begun : Begun) (word : List ℕ) (at : ℕ) (rest : Begun → Outcome) → ((more : Begun) → P (rest more))
    → ((problem : Problem) → P (wrong problem at))
    → P (with_word begun word at rest)
through_word P begun [] at rest f g = f begun
through_word P begun (b ∷ word) at rest f g = go (meaning_of (b ∷ word))
  where
    go : (m : Meaning) → P (with_meaning begun at rest m)
    go (Ok n) = f (added begun n)
    go (Err problem) = g problem

-- No operation that is read has an unknown code.
pub ended_known : (begun : Begun) (at : ℕ) → Known (ended_at begun at)
unfolding ended_at
ended_known begun at x next e =
    ⊎_elim (λ (z : eqb begun.count 0 ≡ true). let t = rw z at e in never (cc))
    (λ (z : eqb begun.count 0 ≡ false).
    ⊎_elim (λ (u : last_code < begun.numbers.code). let t = rw (z, lt-ltb last_code begun.numbers.code u) at e in never (cc))
    (λ (u : begun.numbers.code ≤ last_code).
    ⊎_elim (λ (v : eqb begun.count (field_count begun.numbers.code + 2) ≡ true).
    let t = rw (z, le-ltb last_code begun.numbers.code u, v) at e in let same : begun.numbers ≡ x = cc in rw (← same) u)
    (λ (v : eqb begun.count (field_count begun.numbers.code + 2) ≡ false).
    let t = rw (z, le-ltb last_code begun.numbers.code u, v) at e in never (cc))
    (either (eqb begun.count (field_count begun.numbers.code + 2))))
    (below_or_not last_code begun.numbers.code))
    (either (eqb begun.count 0))

more_known : (begun : Begun) → Known (Ok (More begun))
more_known begun x at e = never (cc)

wrong_known : (at : ℕ) (problem : Problem) → Known (wrong problem at)
wrong_known at problem x next e = never (cc)

pub read_known : (text : List ℕ) (begun : Begun) (word : List ℕ) (at : ℕ) → Known (read_from begun word text at)
unfolding read_from
read_known [] begun word at = through_word Known begun word at (λ more. Ok (More more)) more_known (wrong_known at)
read_known (b ∷ text) begun word at =
    ⊎_elim (λ (t : is_blank b ≡ true).
    rw t (through_word Known begun word at (λ more. read_from more [] text (at + length word + 1))
    (λ more. read_known text more [] (at + length word + 1)) (wrong_known at)))
    (λ (t : is_blank b ≡ false).
    ⊎_elim (λ (u : ends_operation b ≡ true).
    rw (t, u) (through_word Known begun word at (λ more. ended_at more (at + length word)) (λ more. ended_known more (at + length word)) (wrong_known at)))
    (λ (u : ends_operation b ≡ false). rw (t, u) (read_known text begun (word ++ (b ∷ [])) at))
    (either (ends_operation b)))
    (either (is_blank b))
