-- An accepted operation, as defined: what was decided is put in, and room and start are what `apply` leaves.
use Rattle.recorder.specs.Step.{accepted}
use Rattle.recorder.proofs.accept.Goals as goal

pub returns : goal.returns
unfolding accepted
returns c =
    let apply = c.apply-start.ensures in
    rw (c.with_start-state.ensures, apply.0, apply.1, c.decide-all.ensures)
