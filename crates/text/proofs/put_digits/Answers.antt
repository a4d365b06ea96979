-- Digits are stored from the last to the first: the digits that are left, stored from the place on, are all of them stored.
use mathlib.Core.Path.{sym, ◌∙◌}
use native.Mathlib.Omega.{arith}
use lib.ListN.{length-set}
use Rattle.number.proofs.Laws.{sets_written}
use Rattle.text.specs.Text.{digits}
use Rattle.text.proofs.Laws.{length_digits, one_less, none_left}
use Rattle.text.proofs.put_digits.Goals as goal

pub loop-i-preserved : goal.loop-i-preserved
loop-i-preserved g c =
    let i = c.loop-i in
    let step = one_less i.out c.args.at g.row.BASE i.i i.rest (omega arith) in
    (simp length-set (omega arith), rw c.digit_of.ensures (sym step ∙ i.invariant.1))

pub returns : goal.returns
returns g c =
    let a = c.args in
    let i = c.loop-i in
    none_left i.out a.at g.row.BASE i.i i.rest (omega arith) i.invariant.1
    ∙ sets_written a.out.now a.at (digits g.row.BASE a.count a.n) (rw (length_digits g.row.BASE a.count a.n) c.requires.2)
