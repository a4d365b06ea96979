-- Where a number ends. The loop's invariant is `Reached`.
use mathlib.Core.Path.{◌≡◌, ap, ◌∙◌}
use Prim.Native.Nat.{◌+◌}
use native.Mathlib.Omega.{arith}
use Rattle.std.proofs.Common.{Some}
use Rattle.number.proofs.Ends.{moved_to, first_ends, reached_first, none_zero, ends_here, goes_on, ends_tenth, none_tenth}
use Rattle.recording.proofs.number_end.Goals as goal

pub returns-then-bytes-at-lt128-clause-end : goal.returns-then-bytes-at-lt128-clause-end
returns-then-bytes-at-lt128-clause-end c =
    let a = c.args in first_ends a.bytes.now a.at (omega arith) (omega arith)

pub loop-k-init : goal.loop-k-init
loop-k-init c =
    let a = c.args in
    reached_first a.bytes.now a.at (omega arith) (omega arith) (omega (arith, c.type_inv.bytes a.at))

pub returns-then-digit-eq0-clause-end : goal.returns-then-digit-eq0-clause-end
returns-then-digit-eq0-clause-end c =
    none_zero c.loop-k.invariant (omega arith) (omega arith)

pub returns-then-digit-lt128-clause-end : goal.returns-then-digit-lt128-clause-end
returns-then-digit-lt128-clause-end c =
    ends_here c.loop-k.invariant (omega arith) (omega arith) (omega arith) (omega arith)

pub loop-k-preserved : goal.loop-k-preserved
loop-k-preserved c =
    let l = c.loop-k in
    let byte = c.type_inv.bytes (c.args.at + l.k) in
    moved_to (goes_on l.invariant (omega arith) (omega arith) (omega arith) (omega arith)) (omega arith)

pub returns-then-bytes-at-eq1-clause-end : goal.returns-then-bytes-at-eq1-clause-end
returns-then-bytes-at-eq1-clause-end c =
    let next : c.args.at + 10 ≡ c.args.at + 9 + 1 = omega arith in
    ap Some next ∙ ends_tenth (moved_to {j = c.args.at + 9} c.loop-k.invariant (omega arith)) (omega arith) (omega arith) (omega arith)

pub returns-clause-end : goal.returns-clause-end
returns-clause-end c =
    none_tenth (moved_to {j = c.args.at + 9} c.loop-k.invariant (omega arith)) (omega arith) (omega arith) (omega arith)
