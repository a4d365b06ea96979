-- One operation of a replay, as defined: what each callee answers is put in.
use native.Mathlib.Omega.{arith}
use Rattle.line.specs.Turn.{turn_of}
use Rattle.line.proofs.Laws.{used_within}
use Rattle.line.proofs.replay_one.Goals as goal

pub overflow_add-result : goal.overflow_add-result
unfolding turn_of
overflow_add-result c =
    let a = c.args in
    omega (arith, c.write_line-count.ensures.value, used_within a.out.now a.used c.recorded_step-done.result.answer)

pub returns-clause-value : goal.returns-clause-value
unfolding turn_of
returns-clause-value c =
    let step = c.recorded_step-done.ensures in
    let line = c.write_line-count.ensures in rw (← step, c.stops_reading-stops.ensures, line.value)
