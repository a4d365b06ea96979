-- No line is longer than the longest.
use Prim.Native.Nat.{ℕ, ◌+◌, ◌≤◌, ◌<◌, max}
use mathlib.Core.List.{List}
use mathlib.Core.Logic.{⊎_elim}
use native.Mathlib.Omega.{arith}
use borrow.Author.Tests.{lt-leb, le-leb}
use lib.ListN.{length, length-append}
use Rattle.bits.proofs.Cases.{below_or_not}
use Rattle.text.proofs.Laws.{length_digits, length-decimal}
use Rattle.answer.specs.declared.Answer.{Answer}
use Rattle.answer.specs.declared.Answer.TheVariants.{Done, Value, Undefined, Trap2, Trap3, Refused}
use Rattle.line.specs.Line.{line_of, line_count}

pub length_line : (answer : Answer) → length (line_of answer) ≤ 32
unfolding line_of
length_line Done = omega arith
length_line (Value v) = simp length-append (omega (arith, length_digits 16 16 v))
length_line Undefined = omega arith
length_line Trap2 = omega arith
length_line Trap3 = omega arith
length_line (Refused n) = simp length-append (omega (arith, length-decimal n))

-- What a line takes stays within the lent bytes.
pub used_within : (out : List ℕ) (used : ℕ) (answer : Answer) → used + line_count out used answer ≤ max used (length out)
unfolding line_count
used_within out used answer =
    ⊎_elim (λ (h : length out < used + 32). rw (lt-leb (used + 32) (length out) h) (omega arith))
    (λ (h : used + 32 ≤ length out). rw (le-leb (used + 32) (length out) h) (omega (arith, length_line answer)))
    (below_or_not (length out) (used + 32))
