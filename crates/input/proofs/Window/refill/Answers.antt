-- What was unread is moved to the front, and what comes stands behind it.
use Rattle.std.proofs.Common.{◌-◌, arith}
use Rattle.input.proofs.Laws.{filled}
use Rattle.input.proofs.Window.refill.Goals as goal

pub returns-in-Ok-clause-brings : goal.returns-in-Ok-clause-brings
returns-in-Ok-clause-brings c =
    let a = c.args in
    let moved = c.move_down-left in
    λ within.
    rw c.after_read.ensures
    (filled a.bytes.now a.self.now moved.new.input c.read.new.bytes moved.result c.in-Ok.came (65536 - moved.result) (omega (arith, within, c.fits-bytes)) moved.ensures.input_after moved.ensures.value.0 c.in-Ok.ensures.bound.0
    (omega (arith, c.in-Ok.ensures.bound.0, moved.ensures.value.1, c.fits-bytes)))
