-- A recording's first bad number from a place on: what stands where no more operations can be passed, or none at the end.
use Rattle.std.proofs.Common.{◌<◌, length, sym, ap, ◌∙◌, subst, arith}
use Rattle.recording.specs.declared.Passage.{Passage}
use Rattle.recording.specs.Recording.{operation_at}
use Rattle.compare.specs.Walk.{bad_of_reading, bad_from}
use Rattle.compare.proofs.Left.{no_bad}
use Rattle.compare.proofs.Passing.{same_bad, bad_behind}
use Rattle.compare.proofs.bad_from.Goals as goal

pub returns-then-p-bytes : goal.returns-then-p-bytes
returns-then-p-bytes c =
    let a = c.args in
    let bytes = a.bytes.now in
    c.bad_at.ensures
    ∙ ap (λ (q : Passage). bad_of_reading (operation_at bytes q.at)) c.pass-p.ensures
    ∙ bad_behind bytes c.type_inv.bytes a.place (subst (λ (q : Passage). q.at < length bytes) c.pass-p.ensures c.if-p-bytes.true)

pub returns : goal.returns
returns c =
    let a = c.args in
    let bytes = a.bytes.now in
    sym (no_bad bytes c.pass-p.result.at (omega arith))
    ∙ ap (λ (q : Passage). bad_from bytes q.at) c.pass-p.ensures
    ∙ same_bad bytes c.type_inv.bytes (length bytes) a.place
