-- The powers of ten rise, so that a number has one digit more than it reaches of them.
use Rattle.std.proofs.Common.{◌≡◌, ℕ, zero, suc, ◌+◌, ◌*◌, ◌-◌, ◌^◌, ◌≤◌, ◌<◌, List, [], ◌∷◌, get_or, leb, leb-true, refl, inl, inr, arith, rules}
use Rattle.std.proofs.Math.Nat.{pow-zero, pow-succ', pow-le-pow_right, mul_assoc}
use Rattle.std.proofs.lemmas.Bool.{leb-false, lt-ltb, cases_lt}
use Rattle.std.proofs.lemmas.List.Sorted.{IsPartitionPoint-from_clause, IsPartitionedBy-leb, IsNonDecreasingBy-from_default}
use Rattle.std.specs.List.Sorted.{IsPartitionedBy}
use Rattle.text.specs.Text.{digit_count, decimal_count}
use Rattle.text.proofs.Laws.{count_between}
use Rattle.text.proofs.decimal_digits.Goals as goal

powers : ℕ → ℕ → List ℕ
powers zero p = []
powers (suc k) p = p ∷ powers k (p * 10)

get_or-powers : (k p i : ℕ) → i < k → get_or (powers k p) i 0 ≡ p * 10 ^ i
unfolding powers
get_or-powers zero p i h = absurd (omega arith)
get_or-powers (suc k) p zero h = rw (pow-zero 10) (omega arith)
get_or-powers (suc k) p (suc i) h = rw (get_or-powers k (p * 10) i (omega arith), pow-succ' 10 i) (mul_assoc p 10 (10 ^ i))

parted : (n : ℕ) → IsPartitionedBy (λ y. leb y n) (powers 19 10)
unfolding powers
parted n =
    IsPartitionedBy-leb (λ y. y) (powers 19 10) n
    (IsNonDecreasingBy-from_default (λ y. y) (powers 19 10) 0 (λ i j order h.
    rw (get_or-powers 19 10 i (omega arith), get_or-powers 19 10 j (omega arith))
    (omega (arith, pow-le-pow_right {n = 10} (omega arith) {i = i} {j = j} order))))

reached_power : (n k : ℕ) → k ≤ 19 → (0 < k → get_or (powers 19 10) (k - 1) 0 ≤ n) → 0 < k → 10 ^ k ≤ n
reached_power n zero most reached some = absurd (omega arith)
reached_power n (suc k) most reached some =
    let one_less : suc k - 1 ≡ k = omega arith in
    rw (one_less, get_or-powers 19 10 k (omega arith), ← pow-succ' 10 k) at reached some

counted : (n k : ℕ) → n < 2 ^ 64 → k ≤ 19 → (0 < k → get_or (powers 19 10) (k - 1) 0 ≤ n) → (k < 19 → n < get_or (powers 19 10) k 0)
    → k + 1 ≡ digit_count 10 20 n
counted n k fits most reached missed =
    let below : n < 10 ^ suc k = elim (cases_lt k 19) [
      | inl low ↦ rw (get_or-powers 19 10 k low, ← pow-succ' 10 k) at missed low
      | inr high ↦ let last : k ≡ 19 = omega arith in rw last (omega arith)
    ] in
    omega (arith, count_between 10 19 k n (omega arith) most (reached_power n k most reached) below)

pub returns-then-n-lt10 : goal.returns-then-n-lt10
unfolding decimal_count
returns-then-n-lt10 c =
    rw (lt-ltb c.args.n 10 c.if-n-lt10.true) refl

pub returns-then-n-lt100 : goal.returns-then-n-lt100
unfolding decimal_count
returns-then-n-lt100 c =
    omega (arith, count_between 10 19 1 c.args.n (omega arith) (omega arith) (omega arith) (omega arith))

pub returns : goal.returns
unfolding decimal_count powers
returns c =
    let k = c.partition_point.result in
    let point = IsPartitionPoint-from_clause (λ y. leb y c.args.n) (powers 19 10) k c.partition_point.ensures.partitioned (parted c.args.n) (λ a r q h. search rules) in
    counted c.args.n k (omega arith) (omega (arith, c.partition_point.ensures.bound)) (λ h. leb-true _ _ (point.0 (k - 1) 0 (omega arith) (omega arith)))
    (λ h. leb-false _ _ (point.1 k 0 (omega arith) h))
