-- The first unequal pair: the parts of its lines, one behind another.
use Rattle.buffer.proofs.Laws.{and_part}
use Rattle.comparison.specs.Comparison.{unequal_lines}
use Rattle.comparison.proofs.put_unequal.Goals as goal

pub returns : goal.returns
unfolding unequal_lines
returns c =
    (and_part (and_part (and_part (and_part (and_part (and_part c.decimal.ensures c.text.ensures) c.put_differing.ensures) c.text-2.ensures) c.put_readable.ensures) c.text-3.ensures) c.put_readable-2.ensures)
