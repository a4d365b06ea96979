-- `number::more_at` meets its contract. The loop's invariant is `Passed`: what the groups passed make of what the rest reads
-- as is the whole. The measure is how far the place is from the loop's end. Assumes nothing.
use Rattle.std.proofs.Common.{◌+◌, ◌≤◌}
use Prim.Native.Nat.{◌+◌, ◌≤◌}
use mathlib.Core.Path.{◌≡◌}
use native.Mathlib.Omega.{arith}
use Rattle.number.proofs.Groups.{ended, zeroed, place_fits, product_fits, sum_fits, valued, turned, tenth_one, tenth_other}
use Rattle.number.proofs.more_at.Goals as goal

pub returns-then-byte-eq0 : goal.returns-then-byte-eq0
returns-then-byte-eq0 c =
    let l = c.loop-i in
    zeroed l.invariant.0 (omega arith) (omega arith)

pub overflow_mul-result : goal.overflow_mul-result
overflow_mul-result c =
    product_fits c.loop-i.invariant.0 (omega arith) (omega arith)

pub overflow_add-result : goal.overflow_add-result
overflow_add-result c =
    sum_fits c.loop-i.invariant.0 (omega arith) (omega arith)

pub returns-then-byte-lt128 : goal.returns-then-byte-lt128
returns-then-byte-lt128 c =
    valued c.loop-i.invariant.0 (omega arith) (omega arith) (omega arith) (omega arith)

pub overflow_mul-value : goal.overflow_mul-value
overflow_mul-value c =
    let l = c.loop-i in
    let byte = c.type_inv.bytes l.i in
    product_fits l.invariant.0 (omega arith) (omega arith)

pub overflow_add-value : goal.overflow_add-value
overflow_add-value c =
    let l = c.loop-i in
    let byte = c.type_inv.bytes l.i in
    sum_fits l.invariant.0 (omega arith) (omega arith)

pub overflow_mul-place : goal.overflow_mul-place
overflow_mul-place c =
    place_fits c.loop-i.invariant.0 (omega arith)

pub loop-i-preserved : goal.loop-i-preserved
loop-i-preserved c =
    let l = c.loop-i in
    let byte = c.type_inv.bytes l.i in
    (turned l.invariant.0 (omega arith) (omega arith) (omega arith) (omega arith), omega arith)

pub returns-then-bytes-tenth : goal.returns-then-bytes-tenth
returns-then-bytes-tenth c =
    ended c.loop-i.invariant.0 (omega arith)

pub returns-then-bytes-tenth-eq1 : goal.returns-then-bytes-tenth-eq1
returns-then-bytes-tenth-eq1 c =
    let l = c.loop-i in
    let same : l.i ≡ c.tenth_at-tenth.result = omega arith in
    -- the loop ended at the tenth byte
    let low : c.args.at + 8 ≤ l.i = omega (arith, c.tenth_at-tenth.ensures.3 (omega arith)) in
    rw (← same) (tenth_one l.invariant.0 low (omega arith) (rw same c.if-bytes-tenth-eq1.true))

pub returns : goal.returns
returns c =
    let l = c.loop-i in
    let same : l.i ≡ c.tenth_at-tenth.result = omega arith in
    -- the loop ended at the tenth byte
    let low : c.args.at + 8 ≤ l.i = omega (arith, c.tenth_at-tenth.ensures.3 (omega arith)) in
    tenth_other l.invariant.0 low (omega arith) (rw same c.if-bytes-tenth-eq1.false)
