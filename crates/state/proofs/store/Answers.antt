-- The stores in a row are the state's numbers in front of what stood past them.
use borrow.Author.Tests.{lt-leb, le-leb}
use native.Mathlib.Omega.{arith}
use lib.ListN.{length}
use lib.Seq.{sets-eq}
use Rattle.state.specs.Parts.{state_numbers, words_of}
use Rattle.state.specs.Words.{stored}
use Rattle.state.proofs.store.Goals as goal

pub returns-then-words-lt-STATE_NUMBERS : goal.returns-then-words-lt-STATE_NUMBERS
unfolding stored
returns-then-words-lt-STATE_NUMBERS c =
    rw (lt-leb _ _ c.if-words-lt-STATE_NUMBERS.true)

pub returns : goal.returns
unfolding stored
returns c =
    rw (le-leb state_numbers (length c.args.words.now) (omega arith))
    (sets-eq (words_of c.args.s) c.args.words.now 0 (omega arith))
