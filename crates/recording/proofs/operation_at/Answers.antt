-- Reading an operation, as defined: the code decides first, and then what is read behind it.
use native.Mathlib.Omega.{arith}
use mathlib.Core.Path.{◌∙◌}
use borrow.Author.Tests.{lt-ltb, le-ltb}
use Rattle.operation.specs.Operation.{last_code}
use Rattle.recording.specs.Recording.{operation_at}
use Rattle.std.proofs.lemmas.Result.{err_from_is_err_and}
use Rattle.recording.proofs.operation_at.Goals as goal

pub returns-in_err-code : goal.returns-in_err-code
unfolding operation_at
returns-in_err-code c =
    let p = err_from_is_err_and c.from_residual.result c.from_residual.ensures.1 in
    rw (p.1, p.2, ← c.number_from.ensures, c.in_err-code.was)

pub returns-then-code-gt-LAST_CODE : goal.returns-then-code-gt-LAST_CODE
unfolding operation_at
returns-then-code-gt-LAST_CODE c =
    rw (← c.number_from.ensures, c.in_ok-code.was, lt-ltb last_code c.in_ok-code.code (omega arith))

pub returns-in-Ok : goal.returns-in-Ok
unfolding operation_at
returns-in-Ok c =
    rw (← c.number_from.ensures, c.in_ok-code.was, le-ltb last_code c.in_ok-code.code (omega arith)) (rw c.in-Ok.is at c.fields_at-end.ensures)

pub returns-in-Err : goal.returns-in-Err
unfolding operation_at
returns-in-Err c =
    rw (← c.number_from.ensures, c.in_ok-code.was, le-ltb last_code c.in_ok-code.code (omega arith)) (rw c.in-Err.is at c.fields_at-end.ensures)
