-- One number of a bank's record, or a refusal, as defined.
use Rattle.answer.proofs.Laws.{not_0}
use Rattle.bank.specs.Bank.{part_of, bank_shows}
use Rattle.bank.proofs.Laws.{two_bits}
use Rattle.bank.proofs.bank_number.Goals as goal

pub returns-in-None : goal.returns-in-None
returns-in-None c =
    let a = c.args in
    let none = rw c.in-None.is at c.refusal.ensures in
    rw (← two_bits (part_of a.part) a.size a.start a.bank a.m a.room.now, ← none) (cc)

pub returns-in-Some : goal.returns-in-Some
unfolding bank_shows
returns-in-Some c =
    rw (← c.refusal.ensures, c.in-Some.is, not_0, c.into.ensures)
