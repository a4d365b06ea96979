-- What a read answers, as defined: how it ended decides.
use Rattle.change.specs.Change.{answer_of}
use Rattle.change.proofs.read_answer.Goals as goal

pub returns-then-is_done : goal.returns-then-is_done
unfolding answer_of
returns-then-is_done c =
    rw (← c.read_outcome-ended.ensures, ← c.is_done.ensures, c.if-is_done.true, ← c.meant.ensures, c.register_value.ensures)

pub returns-else-is_done : goal.returns-else-is_done
unfolding answer_of
returns-else-is_done c =
    rw (← c.read_outcome-ended.ensures, ← c.is_done.ensures, c.if-is_done.false)
