-- A turn is one of the four.
use Rattle.std.proofs.Common.{ap}
use Rattle.compare.specs.declared.Walk.{Walk}
use Rattle.compare.specs.Walk.{leapt}
use Rattle.compare.proofs.turn.Goals as goal

pub returns-then-same_bytes : goal.returns-then-same_bytes
returns-then-same_bytes c =
    let s = c.same_bytes.ensures.0 c.if-same_bytes.true in
    let l = c.args.l in
    leapt c.if-w-ne0.false c.pass-p.result c.pass-p.ensures s (ap (λ (w : Walk). record { walk = w; most = l.most }) c.over.ensures)
