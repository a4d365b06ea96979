-- `count::decode` meets its contract: each return is what the laws say of the CC values that its tests leave. Assumes nothing.
use Prim.Native.Nat.{ℕ, ◌+◌, ◌*◌, ◌-◌, ◌^◌, ◌%◌, ◌/◌, ◌≤◌, ◌<◌}
use mathlib.Core.Path.{◌≡◌, sym, ap, ◌∙◌}
use native.Mathlib.Omega.{arith}
use borrow.Author.Tests.{eq-eqb, ne_eqb}
use lib.Pow.{shl_exact}
use Rattle.count.specs.Count.{decoded, smallest_of, largest_of}
use Rattle.count.proofs.Laws.{known, refused, decoded-exceeded}
use Rattle.count.proofs.decode.Goals as goal

-- A number of nine digits and what it is shifted by: nothing is lost.
kept : (v m : ℕ) → v / 256 ≤ 12 → m < 512 → m * 2 ^ (v / 256 - 1) % 2 ^ 64 ≡ m * 2 ^ (v / 256 - 1)
kept v m h l = shl_exact {a = m} 9 (v / 256 - 1) 64 (omega arith) (omega arith)

abbrev encoding : goal.Else-e-eq0 → ℕ
encoding c = c.args.cc

pub returns-then-cc-eq-EXCEEDED : goal.returns-then-cc-eq-EXCEEDED
returns-then-cc-eq-EXCEEDED c =
    sym (ap decoded c.if-cc-eq-EXCEEDED.true ∙ decoded-exceeded)

pub returns-then-e-gt12 : goal.returns-then-e-gt12
returns-then-e-gt12 c =
    sym ((refused c.args.cc).1 (omega arith))

pub returns-then-e-eq0 : goal.returns-then-e-eq0
unfolding smallest_of largest_of
returns-then-e-eq0 c =
    let v = c.args.cc in
    sym (known v (omega arith) ∙ rw (eq-eqb (v / 256) 0 (omega arith)))

pub returns : goal.returns
unfolding smallest_of largest_of
returns c =
    let v = encoding c in
    let low = kept v (256 + v % 256) (omega arith) (omega arith) in
    let dropped = kept v 1 (omega arith) (omega arith) in
    let one : 1 * 2 ^ (v / 256 - 1) ≡ 2 ^ (v / 256 - 1) = omega arith in
    sym (known v (omega arith) ∙ rw (ne_eqb (v / 256) 0 (λ x. omega arith), low, dropped, one))
