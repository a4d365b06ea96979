-- A register: each arm knows the number.
use Rattle.readable.proofs.put_register.Goals as goal

pub returns-in-0 : goal.returns-in-0
returns-in-0 c =
    rw c.in-0.is c.text.ensures

pub returns-in-1 : goal.returns-in-1
returns-in-1 c =
    rw c.in-1.is c.text-in-1.ensures

pub returns-in-3 : goal.returns-in-3
returns-in-3 c =
    rw c.in-3.is c.text-in-3.ensures

pub returns-in-4 : goal.returns-in-4
returns-in-4 c =
    rw c.in-4.is c.text-in-4.ensures
