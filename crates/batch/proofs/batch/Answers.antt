-- A batch, as defined: the state decides first, then whether its answers have room, and then the steps of all.
use Prim.Native.Nat.{ℕ, ◌*◌, ◌/◌, ◌≤◌}
use native.Mathlib.Omega.{arith}
use mathlib.Core.Path.{◌≡◌, sym, ◌∙◌}
use mathlib.Core.Bool.{true, false}
use borrow.Author.Tests.{leb-true, leb-false, lt-ltb, le-ltb}
use lib.Dec.{leb, ltb}
use lib.ListN.{length}
use Rattle.recording.specs.Run.{readings}
use Rattle.batch.specs.Batch.{batch_of}
use Rattle.batch.proofs.Steps.{answered}
use Rattle.batch.proofs.batch.Goals as goal

-- Half of the lent numbers are as many answers as have room.
too_few_lem : (n size : ℕ) → leb n (size / 2) ≡ false → ltb size (2 * n) ≡ true
too_few_lem n size h = let more = leb-false n (size / 2) h in lt-ltb size (2 * n) (omega arith)

have_room : (n size : ℕ) → leb n (size / 2) ≡ true → 2 * n ≤ size
have_room n size h = let enough = leb-true n (size / 2) h in omega arith

pub returns-in_default : goal.returns-in_default
unfolding batch_of
returns-in_default c =
    rw (← c.load.ensures, c.in_default.is, c.into.ensures)

pub returns-then-not-at_most : goal.returns-then-not-at_most
unfolding batch_of
returns-then-not-at_most c =
    let a = c.args in
    let few = too_few_lem (length (readings a.bytes.now)) (length a.answers.now) (sym c.at_most.ensures ∙ c.if-not-at_most.true) in
    rw (← c.load.ensures, c.in-Some.is, few, c.into-then-not-at_most.ensures)

pub step_all-count-requires : goal.step_all-count-requires
unfolding batch_of
step_all-count-requires c =
    let room_for : (let a = c.args in 2 * length (readings a.bytes.now) ≤ length a.answers.now) = let a = c.args in
    have_room (length (readings a.bytes.now)) (length a.answers.now) (sym c.at_most.ensures ∙ c.if-not-at_most.false) in
    room_for

pub returns : goal.returns
unfolding batch_of
returns c =
    let room_for : (let a = c.args in 2 * length (readings a.bytes.now) ≤ length a.answers.now) = let a = c.args in
    have_room (length (readings a.bytes.now)) (length a.answers.now) (sym c.at_most.ensures ∙ c.if-not-at_most.false) in
    let a = c.args in
    let r = c.step_all-count.ensures in
    let enough = le-ltb (length a.answers.now) (2 * length (readings a.bytes.now)) room_for in
    rw (← c.load.ensures, c.in-Some.is, enough, r.value, r.words_after, r.room_after, r.answers_after, answered (readings a.bytes.now) a.words.now a.room.now)
