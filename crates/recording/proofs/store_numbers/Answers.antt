-- The six stores in a row are the six numbers in front of what stood past them.
use borrow.Author.Tests.{lt-leb, le-leb}
use mathlib.Core.List.{[], ◌∷◌}
use native.Mathlib.Omega.{arith}
use lib.ListN.{length}
use lib.Seq.{sets-eq}
use Rattle.recording.specs.Operations.{stored_numbers}
use Rattle.recording.proofs.store_numbers.Goals as goal

pub returns-then-lent-lt6 : goal.returns-then-lent-lt6
unfolding stored_numbers
returns-then-lent-lt6 c =
    rw (lt-leb _ _ c.if-lent-lt6.true)

pub returns : goal.returns
unfolding stored_numbers
returns c =
    let a = c.args in
    rw (le-leb 6 (length a.lent.now) (omega arith))
    (sets-eq (a.x.code ∷ a.x.cycles ∷ a.x.a ∷ a.x.b ∷ a.x.c ∷ a.x.d ∷ []) a.lent.now 0 (omega arith))
