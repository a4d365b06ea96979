-- An operation read into lent numbers, as defined: they are judged first.
use borrow.Author.Tests.{lt-ltb, le-ltb}
use Rattle.brb.specs.Recordings.{read_result}
use Rattle.brb.proofs.brb_recording_read.Goals as goal

pub returns-then-lent-lt6 : goal.returns-then-lent-lt6
unfolding read_result
returns-then-lent-lt6 c =
    rw (c.answered.ensures, lt-ltb _ _ c.if-lent-lt6.true)

pub returns-in-Ok : goal.returns-in-Ok
unfolding read_result
returns-in-Ok c =
    rw (c.into.ensures, le-ltb _ _ c.if-lent-lt6.false, ← c.operation_at.ensures, c.in-Ok.is, c.store_numbers.ensures)

pub returns-in-Err : goal.returns-in-Err
unfolding read_result
returns-in-Err c =
    rw (c.answered-in-Err.ensures, le-ltb _ _ c.if-lent-lt6.false, ← c.operation_at.ensures, c.in-Err.is)
