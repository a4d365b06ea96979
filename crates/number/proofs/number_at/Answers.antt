-- `number::number_at` meets its contract: no byte, a byte that ends the number, or a byte before more. Assumes nothing.
use mathlib.Core.Path.{sym}
use Prim.Native.Nat.{◌+◌}
use native.Mathlib.Omega.{arith}
use lib.ListN.{drop, get_or}
use Rattle.number.specs.Number.{number_at}
use Rattle.number.proofs.Groups.{past_end, from_byte}
use Rattle.number.proofs.Laws.{last_read, more_read}
use Rattle.number.proofs.number_at.Goals as goal

pub returns-then-bytes-at : goal.returns-then-bytes-at
unfolding number_at
returns-then-bytes-at c =
    let a = c.args in sym (past_end 9 a.bytes.now a.at (omega arith))

pub returns-then-first-lt128 : goal.returns-then-first-lt128
unfolding number_at
returns-then-first-lt128 c =
    let a = c.args in
    let s = a.bytes.now in
    rw (from_byte s a.at (omega arith)) (sym (last_read 9 (get_or s a.at 0) (drop (a.at + 1) s) a.at (omega arith)))

pub returns : goal.returns
unfolding number_at
returns c =
    let a = c.args in
    let s = a.bytes.now in
    rw (from_byte s a.at (omega arith), more_read 9 (get_or s a.at 0) (drop (a.at + 1) s) a.at (omega arith))
    c.more_at.ensures
