-- The word behind 0x, or the whole.
use Prim.Native.Nat.{ℕ, ◌+◌}
use mathlib.Core.Path.{◌≡◌, refl, sym, ◌∙◌}
use mathlib.Core.Bool.{true, false}
use mathlib.Core.List.{List}
use native.Mathlib.Omega.{arith}
use lib.ListN.{drop}
use Rattle.std.proofs.Common.{Ok, Err}
use Rattle.notation.specs.Words.{word_in, is_prefixed, Meaning, digits_of, prefixed, meaning_of}
use Rattle.notation.specs.Places.{located}
use Rattle.notation.proofs.Words.{Prefix, prefix_split}
use Rattle.notation.proofs.word_at.Goals as goal

further : (s : List ℕ) (i : ℕ) → Prefix s i → (m : Meaning) → located (drop (i + 2) s) (i + 2) m ≡ located (drop i s) i m
further s i p (Ok n) = rw p.size
further s i p (Err problem) = refl

hexadecimal : (s : List ℕ) (i : ℕ) → is_prefixed (word_in (drop i s)) ≡ true
    → located (drop (i + 2) s) (i + 2) (prefixed (word_in (drop (i + 2) s))) ≡ located (drop i s) i (meaning_of (word_in (drop i s)))
unfolding meaning_of
hexadecimal s i e =
    let p = prefix_split s i e in
    further s i p (prefixed (word_in (drop (i + 2) s))) ∙ rw (e, p.rest)

decimal : (s : List ℕ) (i : ℕ) → is_prefixed (word_in (drop i s)) ≡ false
    → located (drop i s) i (digits_of 10 0 (word_in (drop i s))) ≡ located (drop i s) i (meaning_of (word_in (drop i s)))
unfolding meaning_of
decimal s i e = rw e

pub overflow_add-at : goal.overflow_add-at
overflow_add-at c =
    let a = c.args in
    let p = prefix_split a.bytes.now a.at (sym c.is_prefix.ensures ∙ c.if-is_prefix.true) in
    omega arith

pub returns-then-is_prefix : goal.returns-then-is_prefix
returns-then-is_prefix c =
    let a = c.args in
    c.prefixed_at.ensures ∙ hexadecimal a.bytes.now a.at (sym c.is_prefix.ensures ∙ c.if-is_prefix.true)

pub returns : goal.returns
returns c =
    let a = c.args in
    c.digits_at.ensures ∙ decimal a.bytes.now a.at (sym c.is_prefix.ensures ∙ c.if-is_prefix.false)
