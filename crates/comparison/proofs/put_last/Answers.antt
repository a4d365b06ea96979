-- The last line, where the second ends first.
use Rattle.std.proofs.Common.{eq-eqb, ne_eqb}
use Rattle.comparison.specs.Comparison.{last_line}
use Rattle.comparison.proofs.put_last.Goals as goal

pub returns-then-parting-eq-SECOND : goal.returns-then-parting-eq-SECOND
unfolding last_line
returns-then-parting-eq-SECOND c =
    rw (ne_eqb _ _ c.if-parting-eq-FIRST.false, eq-eqb _ _ c.if-parting-eq-SECOND.true) c.put_left-then-parting-eq-SECOND.ensures
