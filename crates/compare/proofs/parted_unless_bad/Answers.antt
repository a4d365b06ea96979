-- What is answered where the walk ended, as defined, by the bad number of either.
use Rattle.compare.proofs.parted_unless_bad.Goals as goal

pub returns-in-Some : goal.returns-in-Some
returns-in-Some c =
    rw (c.bad_number.ensures, c.number.ensures, ← c.bad_from.ensures, c.in-Some.is)

pub returns-in-Some-bad_from : goal.returns-in-Some-bad_from
returns-in-Some-bad_from c =
    rw (c.bad_number-in-Some-bad_from.ensures, c.number-in-Some-bad_from.ensures, ← c.bad_from.ensures, c.in_default.is, ← c.bad_from-2.ensures, c.in-Some-bad_from.is)

pub returns : goal.returns
returns c =
    rw (c.parted.ensures, ← c.bad_from.ensures, c.in_default.is, ← c.bad_from-2.ensures, c.in_default-bad_from.is)
