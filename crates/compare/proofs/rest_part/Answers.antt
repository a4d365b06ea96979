-- The rest as a part, as defined, by whose it is.
use Rattle.std.proofs.Common.{◌≤◌, length, arith, drop_of_length-le, eq-eqb, ne_eqb}
use Rattle.compare.specs.Compare.{rest_part}
use Rattle.compare.proofs.rest_part.Goals as goal

pub returns-then-rest-eq-SECOND : goal.returns-then-rest-eq-SECOND
unfolding rest_part
returns-then-rest-eq-SECOND c =
    rw (eq-eqb _ _ c.if-rest-eq-SECOND.true, c.part_from.ensures)

pub returns-then-rest-eq-FIRST : goal.returns-then-rest-eq-FIRST
unfolding rest_part
returns-then-rest-eq-FIRST c =
    rw (ne_eqb _ _ c.if-rest-eq-SECOND.false, eq-eqb _ _ c.if-rest-eq-FIRST.true, c.part_from-then-rest-eq-FIRST.ensures)

pub returns : goal.returns
unfolding rest_part
returns c =
    let bytes = c.args.a.now in
    let end : length bytes ≤ length bytes = omega arith in
    rw (ne_eqb _ _ c.if-rest-eq-SECOND.false, ne_eqb _ _ c.if-rest-eq-FIRST.false, c.part_from-2.ensures, drop_of_length-le bytes {i = length bytes} end)
