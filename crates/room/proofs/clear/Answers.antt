-- `room::clear` meets its contract. The invariant of its loop: the first of the needed numbers are 0 and the others as they were.
use Rattle.std.proofs.Common.{ℕ, List, [], ◌++◌, ◌≡◌, ap, arith, length, take, drop, replicate, append-nil, length-take-le, drop_of_length-le, le-leb}
use Rattle.std.proofs.lemmas.Bool.{lt-leb}
use borrow.Author.Fill.{fill_more}
use Rattle.room.specs.Room.{needed, cleared}
use Rattle.room.proofs.clear.Goals as goal

pub returns-then-room-count : goal.returns-then-room-count
unfolding cleared
returns-then-room-count c =
    let a = c.args in
    rw (lt-leb (needed a.size) (length a.room.now) (omega arith))

pub loop-number-preserved : goal.loop-number-preserved
loop-number-preserved c =
    let l = c.loop-number in
    let a = c.args in rw l.invariant (fill_more l.number-index 0 (take (needed a.size) a.room.now) (omega arith))

pub returns : goal.returns
unfolding cleared
returns c =
    let a = c.args in
    let l = c.loop-number in
    let items = take (needed a.size) a.room.now in
    let size : length items ≡ needed a.size = length-take-le (needed a.size) a.room.now (omega arith) in
    let done : l.number-index ≡ needed a.size = omega arith in
    let none : drop (needed a.size) items ≡ [] = drop_of_length-le items (omega arith) in
    let zeros : l.number-items ≡ replicate (needed a.size) 0 = rw (done, none, append-nil) at l.invariant in
    rw (le-leb (needed a.size) (length a.room.now) (omega arith)) (ap (λ (front : List ℕ). front ++ drop (needed a.size) a.room.now) zeros)
