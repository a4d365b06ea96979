-- Cycles and fields, as defined: each number that was read stands in the array behind those before it, and a bad one ends them.
use Prim.Native.Nat.{suc}
use mathlib.Core.Path.{refl, sym, ap}
use native.Mathlib.Omega.{arith}
use lib.ListN.{length-set}
use Rattle.recording.specs.Recording.{read_as, field_count, with_fields}
use Rattle.recording.proofs.SoFar.{held_none, held_one, held_bad, held_all}
use Rattle.recording.proofs.fields_at.Goals as goal

pub loop-i-init : goal.loop-i-init
loop-i-init c =
    let a = c.args in (held_none a.bytes.now a.at, refl, omega arith)

pub returns-in_default : goal.returns-in_default
returns-in_default c =
    let code = c.args.code in
    let l = c.loop-i in
    sym (ap (with_fields code) (held_bad l.invariant.0 (ap (read_as l.next) c.number_at.ensures) (ap (read_as l.next) c.in_default.is) (suc (field_count code)) (omega (arith, c.field_count.ensures.0))))

pub loop-i-preserved : goal.loop-i-preserved
loop-i-preserved c =
    let most = c.field_count.ensures.1 in
    let l = c.loop-i in
    (held_one l.invariant.0 (ap (read_as l.next) c.number_at.ensures) (ap (read_as l.next) c.in-Ok.is) (omega arith), simp length-set (omega arith), omega arith)

pub returns : goal.returns
returns c =
    let code = c.args.code in
    rw c.new-numbers.ensures (sym (held_all c.loop-i.invariant.0 code (suc (field_count code)) (omega (arith, c.field_count.ensures.0))))
