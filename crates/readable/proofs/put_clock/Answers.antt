-- The count and the two offsets, one behind another.
use Rattle.buffer.proofs.Laws.{and_part}
use Rattle.readable.proofs.put_clock.Goals as goal

pub returns : goal.returns
returns c =
    and_part (and_part c.hexadecimal.ensures c.hexadecimal-2.ensures) c.hexadecimal-3.ensures
