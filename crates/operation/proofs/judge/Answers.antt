-- Refusals 4, 8 and 5, as defined: each arm knows its operation, and what its callees answer is put in.
use mathlib.Core.Path.{◌≡◌, refl}
use mathlib.Core.Bool.{Bool, true, false, ◌&&◌, ◌||◌, not}
use Rattle.operation.specs.Refusal.{outside_list, wrong_halted, wrong_level}
use Rattle.operation.proofs.judge.Goals as goal

-- Refusal 8's two conditions: of what needs a processor that runs, of a resume, and of what happens halted or not.
runs : (halted : Bool) → halted && true || not halted && false ≡ halted
runs true = refl
runs false = refl

resumes : (halted : Bool) → halted && false || not halted && true ≡ not halted
resumes true = refl
resumes false = refl

idle : (halted : Bool) → halted && false || not halted && false ≡ false
idle true = refl
idle false = refl

pub returns-in-Reset : goal.returns-in-Reset
unfolding outside_list wrong_halted wrong_level
returns-in-Reset c =
    rw (c.in-Reset.is, c.first_of.ensures, c.is_size.ensures, idle)

pub returns-in-Branch : goal.returns-in-Branch
unfolding outside_list wrong_halted wrong_level
returns-in-Branch c =
    rw (c.in-Branch.is, c.judge_branch.ensures, runs)

pub returns-in-Exception : goal.returns-in-Exception
unfolding outside_list wrong_halted wrong_level
returns-in-Exception c =
    rw (c.in-Exception.is, c.judge_exception.ensures, runs)

pub returns-in-Return : goal.returns-in-Return
unfolding outside_list wrong_halted wrong_level
returns-in-Return c =
    rw (c.in-Return.is, c.judge_return.ensures, runs)

pub returns-in-Platform : goal.returns-in-Platform
unfolding outside_list wrong_halted wrong_level
returns-in-Platform c =
    rw (c.in-Platform.is, c.first_of-in-Platform.ensures, idle)

pub returns-in-Read : goal.returns-in-Read
unfolding outside_list wrong_halted wrong_level
returns-in-Read c =
    rw (c.in-Read.is, c.first_of-in-Read.ensures, c.is_register.ensures, idle)

pub returns-in-Write : goal.returns-in-Write
unfolding outside_list wrong_halted wrong_level
returns-in-Write c =
    rw (c.in-Write.is, c.first_of-in-Write.ensures, c.is_register-in-Write.ensures, idle)

pub returns-in-Iall : goal.returns-in-Iall
unfolding outside_list wrong_halted wrong_level
returns-in-Iall c =
    rw (c.in-Iall.is, c.first_of-in-Iall.ensures, idle)

pub returns-in-Halt : goal.returns-in-Halt
unfolding outside_list wrong_halted wrong_level
returns-in-Halt c =
    rw (c.in-Halt.is, c.first_of-in-Halt.ensures, runs)

pub returns-in-Resume : goal.returns-in-Resume
unfolding outside_list wrong_halted wrong_level
returns-in-Resume c =
    rw (c.in-Resume.is, c.first_of-in-Resume.ensures, c.unavailable.ensures, resumes)

pub returns-in-Freeze : goal.returns-in-Freeze
unfolding outside_list wrong_halted wrong_level
returns-in-Freeze c =
    rw (c.in-Freeze.is, c.first_of-in-Freeze.ensures, idle)

pub returns-in-Unknown : goal.returns-in-Unknown
unfolding outside_list wrong_halted wrong_level
returns-in-Unknown c =
    rw (c.in-Unknown.is, c.first_of-in-Unknown.ensures, idle)
