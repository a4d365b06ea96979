-- Digits are stored from the last to the first: the digits that are left, stored from the place on, are all of them stored.
use mathlib.Core.Path.{◌≡◌}
use lib.ListN.{length}
use lib.Seq.{sets}
use Rattle.text.specs.Text.{digits}
use Rattle.text.proofs.put_digits.Given as goal

abbrev pub invariant-loop-i : goal.invariant-loop-i
invariant-loop-i g l =
    (length l.out ≡ length l.initial.out) × (sets l.out l.at (digits g.row.BASE l.i l.rest) ≡ sets l.initial.out l.at (digits g.row.BASE l.count l.n))
