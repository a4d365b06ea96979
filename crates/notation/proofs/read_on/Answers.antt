-- What reading on from a place comes to is what reading on from the start does.
use Prim.Native.Nat.{ℕ, suc, ◌+◌, ◌<◌}
use mathlib.Core.Path.{◌≡◌, sym, ap, ◌∙◌}
use mathlib.Core.Bool.{false}
use mathlib.Core.List.{List, []}
use native.Mathlib.Omega.{arith}
use lib.ListN.{length, drop, get_or}
use Rattle.std.proofs.Common.{Result, Ok, Err}
use Rattle.bits.proofs.Cases.{never}
use Rattle.notation.specs.declared.Begun.{Begun}
use Rattle.notation.specs.declared.Problem.{Problem}
use Rattle.notation.specs.Words.{is_blank, ends_operation, word_in, Meaning, meaning_of}
use Rattle.notation.specs.Reading.{wrong, added, read_from}
use Rattle.notation.specs.Places.{located}
use Rattle.notation.proofs.Reading.{past_at, blank_at, end_at, word_here, number_at, wrong_at}
use Rattle.notation.proofs.read_on.Goals as goal

same_pair : {E : Type 0} {p q : ℕ × ℕ} → ◌≡◌ {A = Result (ℕ × ℕ) E} (Ok p) (Ok q) → p ≡ q
same_pair e = cc

found_number : (text : List ℕ) (at : ℕ) (m : Meaning) (n next : ℕ) → located text at m ≡ Ok (n, next)
    → (m ≡ Ok n) × (at + length (word_in text) ≡ next)
found_number text at (Ok k) n next e =
    let pair = same_pair e in (ap Ok (ap (λ (p : ℕ × ℕ). p.0) pair), ap (λ (p : ℕ × ℕ). p.1) pair)
found_number text at (Err problem) n next e = never (cc)

found_wrong : (text : List ℕ) (at : ℕ) (m : Meaning) (problem : Problem) → located text at m ≡ Err problem → m ≡ Err problem
found_wrong text at (Ok k) problem e = never (cc)
found_wrong text at (Err other) problem e = cc

module _ (s : List ℕ) (at : ℕ) (begun : Begun) (h : at < length s) (e : is_blank (get_or s at 0) ≡ false) (f : ends_operation (get_or s at 0) ≡ false) where
  module _ (n next : ℕ) (m : located (drop at s) at (meaning_of (word_in (drop at s))) ≡ Ok (n, next)) where
    further : at < next
    further =
        let found = found_number (drop at s) at (meaning_of (word_in (drop at s))) n next m in
        let size : length (word_in (drop at s)) ≡ suc (length (word_in (drop (at + 1) s))) = rw (word_here s at begun h e f) in
        omega arith

    a_number : read_from begun [] (drop at s) at ≡ read_from (added begun n) [] (drop next s) next
    a_number =
        let found = found_number (drop at s) at (meaning_of (word_in (drop at s))) n next m in
        rw (← found.1) (number_at s at begun h e f n found.0)

  a_wrong : (problem : Problem) → located (drop at s) at (meaning_of (word_in (drop at s))) ≡ Err problem
      → read_from begun [] (drop at s) at ≡ wrong problem at
  a_wrong problem m = wrong_at s at begun h e f problem (found_wrong (drop at s) at (meaning_of (word_in (drop at s))) problem m)

pub loop-place-preserved-then-is_blank : goal.loop-place-preserved-then-is_blank
loop-place-preserved-then-is_blank c =
    let l = c.loop-place in
    l.invariant ∙ blank_at c.args.bytes.now l.place l.so_far (omega arith) (sym c.is_blank.ensures ∙ c.if-is_blank.true)

pub returns-then-ends_operation : goal.returns-then-ends_operation
returns-then-ends_operation c =
    let l = c.loop-place in
    c.ended.ensures
    ∙ sym (l.invariant
    ∙ end_at c.args.bytes.now l.place l.so_far (omega arith) (sym c.is_blank.ensures ∙ c.if-is_blank.false)
    (sym c.ends_operation.ensures ∙ c.if-ends_operation.true))

pub loop-place-smaller : goal.loop-place-smaller
loop-place-smaller c =
    let l = c.loop-place in
    let inside = c.loop-place-test in
    let went = further c.args.bytes.now l.place l.so_far (omega arith) (sym c.is_blank.ensures ∙ c.if-is_blank.false) (sym c.ends_operation.ensures ∙ c.if-ends_operation.false) c.in-Ok.n c.in-Ok.next (sym c.word_at.ensures ∙ c.in-Ok.is) in
    omega arith

pub loop-place-preserved : goal.loop-place-preserved
loop-place-preserved c =
    let l = c.loop-place in
    rw c.added-so_far.ensures
    (l.invariant
    ∙ a_number c.args.bytes.now l.place l.so_far (omega arith) (sym c.is_blank.ensures ∙ c.if-is_blank.false) (sym c.ends_operation.ensures ∙ c.if-ends_operation.false) c.in-Ok.n c.in-Ok.next (sym c.word_at.ensures ∙ c.in-Ok.is))

pub returns-in-Err : goal.returns-in-Err
returns-in-Err c =
    let l = c.loop-place in
    sym (l.invariant
    ∙ a_wrong c.args.bytes.now l.place l.so_far (omega arith) (sym c.is_blank.ensures ∙ c.if-is_blank.false) (sym c.ends_operation.ensures ∙ c.if-ends_operation.false) c.in-Err.problem (sym c.word_at.ensures ∙ c.in-Err.is))

pub returns : goal.returns
returns c =
    let l = c.loop-place in
    sym (l.invariant ∙ past_at c.args.bytes.now l.place l.so_far (omega arith))
