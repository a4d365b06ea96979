-- Each arm knows what was read.
use Rattle.std.proofs.Common.{refl}
use Rattle.list.proofs.operation_listed.Goals as goal

pub returns-in-Ok : goal.returns-in-Ok
returns-in-Ok c =
    rw (← c.reading_at.ensures, c.in-Ok.is) c.listed.ensures

pub returns-in-Err : goal.returns-in-Err
returns-in-Err c =
    rw (← c.reading_at.ensures, c.in-Err.is) (refl, c.refuse.ensures)
