-- An operation that is replayed keeps within the buffers.
use Rattle.std.proofs.Common.{ap, ◌∙◌, arith}
use Rattle.stream.specs.Stream.{Standing}
use Rattle.replay.proofs.Laws.{keeps_within}
use Rattle.replay.proofs.Replay.turn.Goals as goal

pub invariant_of-self : goal.invariant_of-self
invariant_of-self c =
    let s = c.args.self.now in
    let e = c.replay_next.ensures in
    let kept = keeps_within s.room s.input s.output s.progress (omega (arith, s.within)) in
    let end = ap (λ (x : Standing). x.progress.window.end) e ∙ kept.0 in
    let used = ap (λ (x : Standing). x.progress.used) e in
    record { within = (omega (arith, end, s.within), omega (arith, used, kept.1)) }
