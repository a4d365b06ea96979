-- One operation of a recording, as defined: soundness decides first, then what reading found.
use Rattle.state.specs.Words.{judged}
use Rattle.recording.specs.RecordedStep.{recorded_step}
use Rattle.recording.proofs.recorded_step.Goals as goal

pub returns-then-not-sound : goal.returns-then-not-sound
unfolding judged recorded_step
returns-then-not-sound c =
    let s = c.sound in rw (← s.ensures, c.if-not-sound.true, c.refused.ensures)

pub returns-in-Ok : goal.returns-in-Ok
unfolding judged recorded_step
returns-in-Ok c =
    rw (← c.sound.ensures, c.if-not-sound.false, ← c.operation_at.ensures, c.in-Ok.is) (cc)

pub returns-in-Err : goal.returns-in-Err
unfolding judged recorded_step
returns-in-Err c =
    rw (← c.sound.ensures, c.if-not-sound.false, ← c.operation_at.ensures, c.in-Err.is, c.refused-in-Err.ensures)
