-- How many are equal at the front: the parts of the line, one behind another.
use Rattle.buffer.proofs.Laws.{and_part}
use Rattle.comparison.proofs.put_equal.Goals as goal

pub returns : goal.returns
returns c =
    and_part (and_part c.text.ensures c.put_counted.ensures) c.text-2.ensures
