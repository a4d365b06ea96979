-- Nothing waits where the end is past the input, or in front of the place; else what waits is copied to the front.
use Rattle.std.proofs.Common.{◌∙◌, arith}
use Rattle.buffer.proofs.Laws.{none_moved, all_moved}
use Rattle.buffer.proofs.move_down.Goals as goal

pub returns-then-input-end : goal.returns-then-input-end
returns-then-input-end c =
    let a = c.args in
    let nothing = none_moved a.input.now a.at a.end c.then-input-end.either in
    record { value = nothing.0; input_after = nothing.1 }

pub returns : goal.returns
returns c =
    let a = c.args in
    let moved = all_moved a.input.now a.at a.end c.if-input-end.false c.if-end-at.false in
    record { value = (moved.0, omega (arith, c.copy_within.ensures.len)); input_after = c.copy_within.ensures.after ∙ moved.1 }
