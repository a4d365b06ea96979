-- Both passed, as defined, by which has fewer.
use Rattle.std.proofs.Common.{le-ltb, lt-ltb}
use Rattle.compare.specs.Walk.{passed_both}
use Rattle.compare.proofs.pass_both.Goals as goal

pub returns-then-second-first : goal.returns-then-second-first
unfolding passed_both
returns-then-second-first c =
    rw (← c.pass-first.ensures, ← c.pass-second.ensures, lt-ltb _ _ c.if-second-first.true, ← c.pass-fewer.ensures, c.moved.ensures)

pub returns : goal.returns
unfolding passed_both
returns c =
    rw (← c.pass-first.ensures, ← c.pass-second.ensures, le-ltb _ _ c.if-second-first.false, c.moved-2.ensures)
