-- The first of three refusals, as defined: a choice of refusals has the choice of their numbers.
use Rattle.answer.proofs.Laws.{number-cond}
use Rattle.operation.proofs.first_of.Goals as goal

pub returns : goal.returns
returns c =
    rw (c.pick.ensures, number-cond, c.pick-by_halted.ensures, number-cond, c.pick-by_level.ensures, number-cond)
