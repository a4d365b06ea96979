-- What is answered where the walk ended, as defined, by which of the two goes on.
use Rattle.std.proofs.Common.{arith, le-ltb, lt-ltb}
use Rattle.compare.specs.Walk.{ended}
use Rattle.compare.proofs.parted.Goals as goal

pub returns-then-w-second : goal.returns-then-w-second
unfolding ended
returns-then-w-second c =
    let a = c.args in rw (lt-ltb a.w.other a.second (omega arith), c.good_parting.ensures, c.rest_from.ensures)

pub returns-then-w-first : goal.returns-then-w-first
unfolding ended
returns-then-w-first c =
    let a = c.args in
    rw (le-ltb a.w.other a.second (omega arith), lt-ltb a.w.at a.first (omega arith), c.good_parting-then-w-first.ensures, c.rest_from-then-w-first.ensures)

pub returns : goal.returns
unfolding ended
returns c =
    let a = c.args in
    rw (le-ltb a.w.other a.second (omega arith), le-ltb a.w.at a.first (omega arith), c.good_parting-2.ensures, c.rest_from-2.ensures)
