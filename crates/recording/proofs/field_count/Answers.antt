-- The number of fields, as defined: each answer is that of the codes that are left for it.
use Prim.Native.Nat.{ℕ, zero, suc, ◌≤◌, ◌<◌}
use mathlib.Core.Path.{◌≡◌, refl, sym, ap}
use native.Mathlib.Omega.{arith}
use lib.ListN.{get_or-eq_default}
use Rattle.recording.specs.Recording.{field_counts, field_count}
use Rattle.recording.proofs.field_count.Goals as goal

four : (code : ℕ) → 0 < code → code ≤ 3 → 4 ≡ field_count code
unfolding field_count
four zero h g = absurd (omega arith)
four (suc zero) h g = refl
four (suc (suc zero)) h g = refl
four (suc (suc (suc zero))) h g = refl
four (suc (suc (suc (suc code)))) h g = absurd (omega arith)

one : (code : ℕ) → 3 < code → code ≤ 5 → 1 ≡ field_count code
unfolding field_count
one (suc (suc (suc (suc zero)))) h g = refl
one (suc (suc (suc (suc (suc zero))))) h g = refl
one (suc (suc (suc (suc (suc (suc code)))))) h g = absurd (omega arith)
one zero h g = absurd (omega arith)
one (suc zero) h g = absurd (omega arith)
one (suc (suc zero)) h g = absurd (omega arith)
one (suc (suc (suc zero))) h g = absurd (omega arith)

-- A code between two bounds is the only one there.
only : (code n : ℕ) → n ≤ code → code ≤ n → field_count n ≡ field_count code
only code n low high = let same : n ≡ code = omega arith in ap field_count same

-- Past the last code
none : (code : ℕ) → 10 < code → 0 ≡ field_count code
unfolding field_count
none code past = sym (get_or-eq_default field_counts 0 {n = code} past)

pub returns-then-code-eq1 : goal.returns-then-code-eq1
unfolding field_count
returns-then-code-eq1 c =
    (sym (ap field_count c.if-code-eq1.true), omega arith)

pub returns-then-code-eq10 : goal.returns-then-code-eq10
unfolding field_count
returns-then-code-eq10 c =
    (sym (ap field_count c.if-code-eq10.true), omega arith)

pub returns-then-code-eq0 : goal.returns-then-code-eq0
unfolding field_count
returns-then-code-eq0 c =
    (sym (ap field_count c.if-code-eq0.true), omega arith)

pub returns-then-code-le3 : goal.returns-then-code-le3
unfolding field_count
returns-then-code-le3 c =
    (four c.args.code (omega arith) (omega arith), omega arith)

pub returns-then-code-le5 : goal.returns-then-code-le5
unfolding field_count
returns-then-code-le5 c =
    (one c.args.code (omega arith) (omega arith), omega arith)

pub returns-then-code-le6 : goal.returns-then-code-le6
unfolding field_count
returns-then-code-le6 c =
    (only c.args.code 6 (omega arith) (omega arith), omega arith)

pub returns-then-code-le7 : goal.returns-then-code-le7
unfolding field_count
returns-then-code-le7 c =
    (only c.args.code 7 (omega arith) (omega arith), omega arith)

pub returns-then-code-le8 : goal.returns-then-code-le8
unfolding field_count
returns-then-code-le8 c =
    (only c.args.code 8 (omega arith) (omega arith), omega arith)

pub returns-then-code-le9 : goal.returns-then-code-le9
unfolding field_count
returns-then-code-le9 c =
    (only c.args.code 9 (omega arith) (omega arith), omega arith)

pub returns : goal.returns
unfolding field_count
returns c =
    (none c.args.code (omega arith), omega arith)
