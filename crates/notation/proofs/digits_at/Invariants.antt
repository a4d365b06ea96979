-- What the rest is behind the value of the digits passed is what the whole word is.
use mathlib.Core.Path.{◌≡◌}
use Rattle.notation.proofs.Words.{number_from}
use Rattle.notation.proofs.digits_at.Given as goal

abbrev pub invariant-loop-i : goal.invariant-loop-i
invariant-loop-i g l =
    number_from g.row.BASE l.bytes l.at 0 ≡ number_from g.row.BASE l.bytes l.i l.value
