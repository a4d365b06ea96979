-- Where an operation ends, as defined: nowhere past the end.
use native.Mathlib.Omega.{arith}
use Rattle.number.proofs.Groups.{past_end}
use Rattle.number.specs.Number.{number_at}
use Rattle.recording.specs.Recording.{operation_at}
use Rattle.recording.proofs.end_at.Goals as goal

pub returns-then-bytes-at : goal.returns-then-bytes-at
unfolding operation_at number_at
returns-then-bytes-at c =
    let a = c.args in rw (past_end 9 a.bytes.now a.at (omega arith))
