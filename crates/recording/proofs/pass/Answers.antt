-- Operations are passed as defined. The loop's invariant: those that are left to be passed, after those that were, are all.
use Prim.Native.Nat.{ℕ, suc, ◌+◌, ◌-◌}
use mathlib.Core.Path.{◌≡◌, sym, ap, ◌∙◌}
use native.Mathlib.Omega.{arith}
use Rattle.recording.specs.Run.{passed_from}
use Rattle.recording.proofs.Passes.{ahead, one_passed, none_passed}
use Rattle.recording.proofs.pass.Goals as goal

-- None is passed any more.
last : (count at : ℕ) → record { count = count; at = at } ≡ ahead count (record { count = 0; at = at })
last count at = let none : count ≡ count + 0 = omega arith in λ i. record { count = none i; at = at }

-- What cannot be read.
pub returns-in_default : goal.returns-in_default
returns-in_default c =
    let a = c.args in
    let l = c.loop-count in
    let j = a.most - l.count - 1 in
    let some : suc j ≡ a.most - l.count = omega arith in
    last l.count l.place
    ∙ ap (ahead l.count) (sym (none_passed a.bytes.now l.place j (sym c.in_default.is ∙ c.end_at.ensures)))
    ∙ ap (λ (m : ℕ). ahead l.count (passed_from m a.bytes.now l.place)) some
    ∙ l.invariant

-- One operation more.
pub loop-count-preserved : goal.loop-count-preserved
loop-count-preserved c =
    let a = c.args in
    let l = c.loop-count in
    let j = a.most - (l.count + 1) in
    let some : suc j ≡ a.most - l.count = omega arith in
    one_passed a.bytes.now l.place j l.count c.in-Some.next (sym c.in-Some.is ∙ c.end_at.ensures)
    ∙ ap (λ (m : ℕ). ahead l.count (passed_from m a.bytes.now l.place)) some
    ∙ l.invariant

-- As many as may be.
pub returns : goal.returns
unfolding passed_from
returns c =
    let a = c.args in
    let l = c.loop-count in
    let all : a.most ≡ l.count = omega arith in
    let none : 0 ≡ a.most - l.count = omega arith in
    ap (λ (n : ℕ). record { count = n; at = l.place }) all
    ∙ last l.count l.place
    ∙ ap (λ (m : ℕ). ahead l.count (passed_from m a.bytes.now l.place)) none
    ∙ l.invariant
