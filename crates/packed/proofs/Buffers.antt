-- A text that is read in parts, as a buffer holds them, is read as a whole; and of zeros in front of a word some may be left out.
use Prim.Native.Nat.{ℕ, suc, ◌+◌}
use mathlib.Core.Path.{◌≡◌, refl, ◌∙◌}
use mathlib.Core.Bool.{true, false}
use mathlib.Core.Logic.{⊎_elim}
use mathlib.Core.List.{List, [], ◌∷◌, ◌++◌}
use native.Mathlib.Omega.{arith}
use lib.Dec.{ltb, eqb}
use lib.ListN.{length, length-append}
use Rattle.std.proofs.Common.{Ok, Err}
use Rattle.bits.proofs.Cases.{either, never}
use Rattle.operation.specs.Operation.{last_code}
use Rattle.recording.specs.Recording.{field_count}
use Rattle.notation.specs.declared.Begun.{Begun}
use Rattle.notation.specs.declared.Step.TheVariants.{More}
use Rattle.notation.specs.Words.{is_blank, ends_operation, Meaning, digits_of, is_prefixed, meaning_of}
use Rattle.notation.specs.Reading.{Outcome, added, ended_at, with_meaning, with_word, read_from}

-- Behind a word, with more to come: what follows it decides.
record Passed (begun : Begun) (word : List ℕ) (at : ℕ) (f : Begun → Outcome) (last : Begun) : Type 0 where
  next : Begun
  here : f next ≡ Ok (More last)
  any : (g : Begun → Outcome) → with_word begun word at g ≡ g next

passed : (begun : Begun) (word : List ℕ) (at : ℕ) (f : Begun → Outcome) (last : Begun) → with_word begun word at f ≡ Ok (More last)
    → Passed begun word at f last
passed begun [] at f last e = record { next = begun; here = e; any = λ g. refl }
passed begun (b ∷ word) at f last e = go (meaning_of (b ∷ word)) refl e
  where
    go : (m : Meaning) → meaning_of (b ∷ word) ≡ m → with_meaning begun at f m ≡ Ok (More last) → Passed begun (b ∷ word) at f last
    go (Ok n) same h = record { next = added begun n; here = h; any = λ g. rw same }
    go (Err problem) same h = never (cc)

ended_not_more : (begun last : Begun) (at : ℕ) → ended_at begun at ≡ Ok (More last) → ⊥
unfolding ended_at
ended_not_more begun last at e =
    ⊎_elim (λ (f : eqb begun.count 0 ≡ true). let t = rw f at e in never (cc))
    (λ (f : eqb begun.count 0 ≡ false).
    ⊎_elim (λ (g : ltb last_code begun.numbers.code ≡ true). let t = rw (f, g) at e in never (cc))
    (λ (g : ltb last_code begun.numbers.code ≡ false).
    ⊎_elim (λ (h : eqb begun.count (field_count begun.numbers.code + 2) ≡ true). let t = rw (f, g, h) at e in never (cc))
    (λ (h : eqb begun.count (field_count begun.numbers.code + 2) ≡ false). let t = rw (f, g, h) at e in never (cc))
    (either (eqb begun.count (field_count begun.numbers.code + 2))))
    (either (ltb last_code begun.numbers.code)))
    (either (eqb begun.count 0))

-- A part that ends with a blank, and the rest.
pub in_parts : (part : List ℕ) (b : ℕ) (rest : List ℕ) (begun : Begun) (word : List ℕ) (at : ℕ) (last : Begun) → is_blank b ≡ true
    → read_from begun word (part ++ (b ∷ [])) at ≡ Ok (More last)
    → read_from begun word (part ++ (b ∷ rest)) at ≡ read_from last [] rest (at + length word + length part + 1)
unfolding read_from
in_parts [] b rest begun word at last blank e =
    let p = passed begun word at (λ more. Ok (More more)) last (rw blank at e) in
    let same : p.next ≡ last = cc in
    let place : at + length word + 0 + 1 ≡ at + length word + 1 = omega arith in
    rw blank (p.any (λ more. read_from more [] rest (at + length word + 1)) ∙ rw (same, place))
in_parts (a ∷ part) b rest begun word at last blank e =
    ⊎_elim (λ (t : is_blank a ≡ true).
    let p = passed begun word at (λ more. read_from more [] (part ++ (b ∷ [])) (at + length word + 1)) last (rw t at e) in
    let place : at + length word + 1 + 0 + length part + 1 ≡ at + length word + suc (length part) + 1 = omega arith in
    rw (t, ← place) (p.any (λ more. read_from more [] (part ++ (b ∷ rest)) (at + length word + 1))
    ∙ in_parts part b rest p.next [] (at + length word + 1) last blank p.here))
    (λ (t : is_blank a ≡ false).
    ⊎_elim (λ (u : ends_operation a ≡ true).
    let p = passed begun word at (λ more. ended_at more (at + length word)) last (rw (t, u) at e) in
    absurd (ended_not_more p.next last (at + length word) p.here))
    (λ (u : ends_operation a ≡ false).
    let place : at + length (word ++ (a ∷ [])) + length part + 1 ≡ at + length word + suc (length part) + 1 = simp length-append (omega arith) in
    rw (t, u, ← place) (in_parts part b rest begun (word ++ (a ∷ [])) at last blank (rw (t, u) at e)))
    (either (ends_operation a)))
    (either (is_blank a))

-- A zero in front of two, and one behind 0x and in front of another, may be left out.
pub zero_left_out : (word : List ℕ) → meaning_of (48 ∷ 48 ∷ 48 ∷ word) ≡ meaning_of (48 ∷ 48 ∷ word)
unfolding meaning_of is_prefixed digits_of
zero_left_out word = refl

pub prefixed_zero_left_out : (word : List ℕ) → meaning_of (48 ∷ 120 ∷ 48 ∷ 48 ∷ word) ≡ meaning_of (48 ∷ 120 ∷ 48 ∷ word)
unfolding meaning_of is_prefixed digits_of
prefixed_zero_left_out word = refl
