-- What is left of the run and the sums so far are those of all of it (`Left`): each turn adds both ends of one encoding. Assumes nothing.
use Rattle.sum.proofs.Left.{Left}
use Rattle.sum.proofs.sum.Given as goal

abbrev pub invariant-loop-cc : goal.invariant-loop-cc
invariant-loop-cc l =
    Left l.run l.cc-index l.low l.high l.bounded
