-- The lines before go out where they leave no room, and else stay in front.
use Rattle.std.proofs.Common.{◌≡◌, refl, ◌∙◌}
use Rattle.list.specs.List.{lines_before, no_output}
use Rattle.list.proofs.Laws.{is_listed}
use Rattle.list.proofs.listed.Goals.{else-not-has_room-via-then-not-has_room+else-not-flush, else-not-has_room-via-else-not-has_room}
use Rattle.list.proofs.listed.Goals as goal

pub returns-then-not-flush : goal.returns-then-not-flush
returns-then-not-flush c =
    rw c.flush.ensures no_output

pub returns : goal.returns
returns c =
    let a = c.args in
    let front : c.else-not-has_room.out ≡ lines_before a.out.now = elim c.else-not-has_room.branch [
      | else-not-has_room-via-then-not-has_room+else-not-flush w ↦ rw (← c.has_room.ensures, w.if-not-has_room.true) (w.out-is ∙ w.flush.ensures)
      | else-not-has_room-via-else-not-has_room w ↦ rw (← c.has_room.ensures, w.if-not-has_room.false) w.out-is
    ] in
    is_listed a.out.now a.numbers a.p a.x a.next front c.passed.ensures c.put_line.ensures
