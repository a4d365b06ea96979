-- The first refusal, as defined.
use borrow.Author.Tests.{lt-ltb, le-ltb, le-leb, lt-leb}
use lib.ListN.{length}
use Rattle.room.proofs.Laws.{third_below}
use Rattle.bank.specs.Bank.{bank_refusal}
use Rattle.bank.proofs.refusal.Goals as goal

pub returns-then-listed-bank : goal.returns-then-listed-bank
unfolding bank_refusal
returns-then-listed-bank c =
    rw (← c.is_size-listed.ensures, c.if-listed-bank.true)

pub returns-then-size-start : goal.returns-then-size-start
unfolding bank_refusal
returns-then-size-start c =
    rw (← c.is_size-listed.ensures, c.if-listed-bank.false, le-leb _ _ c.if-size-start.true)

pub returns-then-room-size : goal.returns-then-room-size
unfolding bank_refusal
returns-then-room-size c =
    let a = c.args in
    rw (← c.is_size-listed.ensures, c.if-listed-bank.false, lt-leb _ _ c.if-size-start.false, ← third_below (length a.room.now) a.size, lt-ltb _ _ c.if-room-size.true)

pub returns : goal.returns
unfolding bank_refusal
returns c =
    let a = c.args in
    rw (← c.is_size-listed.ensures, c.if-listed-bank.false, lt-leb _ _ c.if-size-start.false, ← third_below (length a.room.now) a.size, le-ltb _ _ c.if-room-size.false)
