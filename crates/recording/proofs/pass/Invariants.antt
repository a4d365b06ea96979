-- Operations are passed as defined. The loop's invariant: those that are left to be passed, after those that were, are all.
use Prim.Native.Nat.{◌-◌}
use mathlib.Core.Path.{◌≡◌}
use Rattle.recording.specs.Run.{passed_from}
use Rattle.recording.proofs.Passes.{ahead}
use Rattle.recording.proofs.pass.Given as goal

abbrev pub invariant-loop-count : goal.invariant-loop-count
invariant-loop-count l =
    ahead l.count (passed_from (l.most - l.count) l.bytes l.place) ≡ passed_from l.most l.bytes l.at
