-- The clause of an operation, as defined: each arm knows its operation, what its callee answers is put in, and what is not wanted
-- becomes no record.
use mathlib.Core.Path.{◌≡◌, refl, sym}
use mathlib.Core.Bool.{Bool, true, false, ◌&&◌, ◌||◌, not}
use Rattle.event.specs.Event.{becomes_record}
use Rattle.freeze.proofs.Laws.{no_occasion}
use Rattle.region.proofs.Laws.{in_debug_state_lem}
use Rattle.operation.specs.Clause.{changed}
use Rattle.change.specs.Change.{effect_of, answer_of}
use Rattle.change.proofs.Occasions.{unset, or_false}
use Rattle.change.proofs.does.Goals as goal

-- A reset turns counting off and clears PAUSED.
off : (counts paused : Bool) → not counts && false || paused && true || false ≡ paused
off true true = refl
off true false = refl
off false true = refl
off false false = refl

pub returns-in-Reset : goal.returns-in-Reset
unfolding changed effect_of answer_of becomes_record
returns-in-Reset c =
    let o = c.in-Reset.is in
    let clause = c.plain_clause.ensures in
    (rw (o, clause, c.after_reset.ensures), rw (o, clause, c.paused.ensures, off), λ r. rw (o, clause), rw (o, clause), rw clause c.requires, rw clause)

pub returns-in-Branch : goal.returns-in-Branch
unfolding changed effect_of answer_of becomes_record
returns-in-Branch c =
    let o = c.in-Branch.is in
    let clause = c.branch_clause.ensures in
    (rw (o, clause), rw (o, clause, unset), λ r. rw (o, clause), rw (o, clause), rw clause c.requires, rw clause)

pub returns-in-Exception : goal.returns-in-Exception
unfolding changed effect_of answer_of becomes_record
returns-in-Exception c =
    let o = c.in-Exception.is in
    let clause = c.exception_clause.ensures in
    (rw (o, clause), rw (o, clause, unset), λ r. rw (o, clause), rw (o, clause), rw clause, rw clause)

pub returns-in-Return : goal.returns-in-Return
unfolding changed effect_of answer_of becomes_record
returns-in-Return c =
    let o = c.in-Return.is in
    let clause = c.return_clause.ensures in
    (rw (o, clause), rw (o, clause, unset), λ r. rw (o, clause), rw (o, clause), rw clause, rw clause)

pub returns-in-Platform : goal.returns-in-Platform
unfolding changed effect_of answer_of becomes_record
returns-in-Platform c =
    let o = c.in-Platform.is in
    let clause = c.plain_clause-in-Platform.ensures in
    (rw (o, clause, c.with_platform.ensures), rw (o, clause, unset), λ r. rw (o, clause), rw (o, clause), rw clause c.requires, rw clause)

pub returns-in-Read : goal.returns-in-Read
unfolding changed effect_of answer_of becomes_record
returns-in-Read c =
    let o = c.in-Read.is in
    let clause = c.plain_clause-in-Read.ensures in
    (rw (o, clause), rw (o, clause, unset), λ r. rw (o, clause), rw (o, clause, c.read_answer.ensures), rw clause c.requires, rw clause)

pub returns-in-Write : goal.returns-in-Write
unfolding changed effect_of answer_of becomes_record
returns-in-Write c =
    let o = c.in-Write.is in
    let clause = c.write_clause.ensures in
    (rw (o, clause), rw (o, clause, or_false), λ r. rw (o, clause), rw (o, clause), rw clause c.requires, rw clause)

pub returns-in-Iall : goal.returns-in-Iall
unfolding changed effect_of answer_of becomes_record
returns-in-Iall c =
    let o = c.in-Iall.is in
    let clause = c.iall_clause.ensures in
    (rw (o, clause), rw (o, clause, unset), λ r. rw (o, clause), rw (o, clause), rw clause c.requires, rw clause)

pub returns-in-Halt : goal.returns-in-Halt
unfolding changed effect_of answer_of becomes_record
returns-in-Halt c =
    let o = c.in-Halt.is in
    let clause = c.halt_clause.ensures in
    (rw (o, clause), rw (o, clause, unset), λ r. rw (o, clause), rw (o, clause), rw clause (sym (in_debug_state_lem _)), rw clause)

pub returns-in-Resume : goal.returns-in-Resume
unfolding changed effect_of answer_of becomes_record
returns-in-Resume c =
    let o = c.in-Resume.is in
    let clause = c.resume_clause.ensures in
    (rw (o, clause), rw (o, clause, unset), λ r. rw (o, clause), rw (o, clause), rw clause, rw clause)

pub returns-in-Freeze : goal.returns-in-Freeze
unfolding changed effect_of answer_of becomes_record
returns-in-Freeze c =
    let o = c.in-Freeze.is in
    let clause = c.freeze_clause.ensures in
    (rw (o, clause), rw (o, clause, no_occasion), λ r. rw (o, clause), rw (o, clause), rw clause c.requires, rw clause)

pub returns-in-Unknown : goal.returns-in-Unknown
unfolding changed effect_of answer_of becomes_record
returns-in-Unknown c =
    let o = c.in-Unknown.is in
    let clause = c.plain_clause-in-Unknown.ensures in
    (rw (o, clause), rw (o, clause, unset), λ r. rw (o, clause), rw (o, clause), rw clause c.requires, rw clause)
