-- The length of numbers. The loop's invariant: what is counted, and the bytes of the numbers from here on, make the whole.
use native.Mathlib.Omega.{arith}
use mathlib.Core.Path.{◌≡◌}
use mathlib.Core.List.{[]}
use lib.ListN.{drop, drop_of_length-le}
use Rattle.recording.specs.Recording.{bytes_of_all}
use Rattle.recording.proofs.Several.{next-length}
use Rattle.recording.proofs.numbers_length.Goals as goal

pub loop-n-preserved : goal.loop-n-preserved
loop-n-preserved c =
    omega (arith, next-length c.args.list.now c.loop-n.n-index (omega arith))

pub returns : goal.returns
unfolding bytes_of_all
returns c =
    let none : drop c.loop-n.n-index c.args.list.now ≡ [] = drop_of_length-le c.args.list.now (omega arith) in
    let h = rw none at c.loop-n.invariant.1 in
    omega arith
