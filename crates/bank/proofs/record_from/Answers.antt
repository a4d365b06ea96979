-- `bank::record_from` meets its contract: each early way out is a zero record, and the last reads the record.
use native.Mathlib.Omega.{arith}
use borrow.Author.Tests.{le-leb, lt-leb}
use Rattle.bank.specs.Bank.{view_shows}
use Rattle.bank.proofs.Laws.{past_size}
use Rattle.bank.proofs.record_from.Goals as goal

pub returns-then-m-ge-BANKED : goal.returns-then-m-ge-BANKED
unfolding view_shows
returns-then-m-ge-BANKED c =
    rw (c.zero.ensures, le-leb 32 c.args.m (omega arith))

pub returns-then-size-first : goal.returns-then-size-first
returns-then-size-first c =
    let a = c.args in
    rw (c.zero-then-size-first.ensures, past_size a.size a.start a.first a.m a.records.now (omega arith))

pub returns-then-size-first-2 : goal.returns-then-size-first-2
returns-then-size-first-2 c =
    let a = c.args in
    rw (c.zero-then-size-first-2.ensures, past_size a.size a.start a.first a.m a.records.now (omega arith))

pub returns : goal.returns
unfolding view_shows
returns c =
    rw (lt-leb 32 c.args.m (omega arith), c.record_at.ensures)
