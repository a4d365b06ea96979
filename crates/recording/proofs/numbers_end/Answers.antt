-- Where so many numbers end. The loop's invariant: where those that are left end is where all do.
use Prim.Native.Nat.{ℕ, suc, ◌+◌, ◌-◌}
use mathlib.Core.Path.{◌≡◌, sym, ap, ◌∙◌}
use native.Mathlib.Omega.{arith}
use Rattle.recording.specs.Recording.{numbers_at}
use Rattle.recording.specs.Run.{end_of_several}
use Rattle.recording.proofs.End.{end_on, end_none}
use Rattle.recording.proofs.numbers_end.Goals as goal

pub loop-init : goal.loop-init
loop-init c =
    let a = c.args in
    let all : a.count - 0 ≡ a.count = omega arith in
    (ap (λ (j : ℕ). end_of_several (numbers_at j a.bytes.now a.at)) all, omega arith)

pub number_end-requires : goal.number_end-requires
number_end-requires c =
    omega arith

-- A bad number.
pub returns-in_err-next : goal.returns-in_err-next
returns-in_err-next c =
    let a = c.args in
    let l = c.loop in
    let k = a.count - l.counter - 1 in
    let some : suc k ≡ a.count - l.counter = omega arith in
    c.from_residual.ensures
    ∙ sym (end_none k a.bytes.now l.next (sym c.in_err-next.was ∙ c.number_end.ensures.end))
    ∙ ap (λ (j : ℕ). end_of_several (numbers_at j a.bytes.now l.next)) some
    ∙ l.invariant.0

-- One number more.
pub loop-preserved : goal.loop-preserved
loop-preserved c =
    let a = c.args in
    let l = c.loop in
    let k = a.count - (l.counter + 1) in
    let some : suc k ≡ a.count - l.counter = omega arith in
    let on = end_on k a.bytes.now l.next c.in_ok-next.next (sym c.in_ok-next.was ∙ c.number_end.ensures.end) in
    (sym on ∙ ap (λ (j : ℕ). end_of_several (numbers_at j a.bytes.now l.next)) some ∙ l.invariant.0, omega (arith, c.in_ok-next.ensures.near))

-- All of them.
pub returns : goal.returns
unfolding numbers_at
returns c =
    let l = c.loop in
    let none : 0 ≡ c.args.count - l.counter = omega arith in
    ap (λ (j : ℕ). end_of_several (numbers_at j c.args.bytes.now l.next)) none ∙ l.invariant.0
