-- The pair at the walk's two places, as defined, by what was read of each.
use Rattle.compare.proofs.read_pair.Goals as goal

pub returns-in_default : goal.returns-in_default
returns-in_default c =
    rw (c.stopped.ensures, ← c.operation_at.ensures, c.in_default.is)

pub returns-in_default-operation_at : goal.returns-in_default-operation_at
returns-in_default-operation_at c =
    rw (c.stopped-in_default-operation_at.ensures, ← c.operation_at.ensures, ← c.operation_at-2.ensures, c.in-Ok.is, c.in_default-operation_at.is)

pub returns : goal.returns
returns c =
    rw (c.after.ensures, c.differing_of.ensures, ← c.operation_at.ensures, ← c.operation_at-2.ensures, c.in-Ok.is, c.in-Ok-operation_at.is)
