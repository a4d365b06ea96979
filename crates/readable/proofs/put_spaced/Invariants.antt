-- The numbers so far stand behind what waited.
use lib.ListN.{take}
use Rattle.buffer.specs.Buffer.{Put}
use Rattle.notation.specs.Text.{spaced}
use Rattle.readable.proofs.put_spaced.Given as goal

abbrev pub invariant-loop-n : goal.invariant-loop-n
invariant-loop-n l =
    Put l.initial.out (spaced (take l.n-index l.list)) l.out
