-- Where an operation ends that has sixty bytes there, as defined: the code decides first.
use Prim.Native.Nat.{ℕ, suc, ◌+◌}
use native.Mathlib.Omega.{arith}
use mathlib.Core.Path.{◌≡◌, sym, ap, ◌∙◌}
use borrow.Author.Tests.{lt-ltb, le-ltb}
use Rattle.number.proofs.Window.{reach}
use Rattle.operation.specs.Operation.{last_code}
use Rattle.recording.specs.Recording.{field_count, numbers_at, operation_at}
use Rattle.recording.specs.Run.{end_of_several}
use Rattle.recording.proofs.End.{end_of_fields}
use Rattle.recording.proofs.whole_end.Goals as goal

pub returns-in_default : goal.returns-in_default
unfolding operation_at
returns-in_default c =
    rw (← c.number_at.ensures, c.in_default.is)

pub returns-then-code-gt-LAST_CODE : goal.returns-then-code-gt-LAST_CODE
unfolding operation_at
returns-then-code-gt-LAST_CODE c =
    rw (← c.number_at.ensures, c.in-Ok.is, lt-ltb last_code c.in-Ok.code (omega arith))

-- The code has ten bytes at most, and so has each number behind it.
pub numbers_end-requires : goal.numbers_end-requires
numbers_end-requires c =
    let r = reach c.args.bytes.now c.args.at c.in-Ok.code c.in-Ok.next (sym c.number_at.ensures ∙ c.in-Ok.is) in
    omega (arith, r.allowed_to, c.field_count.ensures.1)

pub returns : goal.returns
unfolding operation_at
returns c =
    let bytes = c.args.bytes.now in
    let count : c.field_count.result + 1 ≡ suc (field_count c.in-Ok.code) = omega (arith, c.field_count.ensures.0) in
    rw (← c.number_at.ensures, c.in-Ok.is, le-ltb last_code c.in-Ok.code (omega arith))
    (c.numbers_end.ensures ∙ ap (λ (j : ℕ). end_of_several (numbers_at j bytes c.in-Ok.next)) count ∙ sym (end_of_fields c.in-Ok.code (numbers_at (suc (field_count c.in-Ok.code)) bytes c.in-Ok.next)))
