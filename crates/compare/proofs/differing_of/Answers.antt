-- What differs in two operations, as defined: the codes decide first.
use Rattle.std.proofs.Common.{eq-eqb, ne_eqb}
use Rattle.compare.specs.Compare.{differing}
use Rattle.compare.proofs.differing_of.Goals as goal

pub returns-then-x-y : goal.returns-then-x-y
unfolding differing
returns-then-x-y c =
    rw (eq-eqb _ _ c.if-x-y.true, c.unlike_by.ensures.0, c.unlike_by-then-x-y.ensures.0, c.unlike_by-then-x-y-2.ensures.0, c.unlike_by-then-x-y-3.ensures.0, c.unlike_by-then-x-y-4.ensures.0)

pub returns : goal.returns
unfolding differing
returns c =
    rw (ne_eqb _ _ c.if-x-y.false)
