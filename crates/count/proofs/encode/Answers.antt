-- `count::encode` meets its contract: what is rounded is a count of 256 and more that the counter holds, whose leading zeros tell its
-- power of two (`power`); with that power each step stays in range, and where the count is such a one itself, makes the encoding.
-- Assumes nothing.
use Prim.Native.Nat.{ℕ, ◌+◌, ◌*◌, ◌-◌, ◌^◌, ◌/◌, ◌≤◌, ◌<◌}
use mathlib.Core.Path.{◌≡◌, sym}
use mathlib.Core.Bool.{cond, ◌||◌}
use mathlib.Core.Logic.{⊎_elim}
use native.Mathlib.Omega.{arith}
use lib.Count.{count_leading_zeros}
use lib.Dec.{ltb}
use borrow.Author.Tests.{le-ltb, lt-ltb}
use Rattle.bits.proofs.Cases.{below_or_not}
use Rattle.count.specs.Count.{largest_count, exceeded, encoded}
use Rattle.count.proofs.Laws.{Scaled, power, above, encoded_small, encoded_at, quotient, least_quotient, encoded_fits}
use Rattle.count.proofs.encode.Goals as goal

-- What is rounded: the count, or 256 where it has no E or no encoding.
abbrev rounded : ℕ → ℕ
rounded n = cond (ltb n 256 || ltb largest_count n) 256 n

in_range : (n : ℕ) → (256 ≤ rounded n) × (rounded n ≤ largest_count)
in_range n =
    ⊎_elim (λ (h : n < 256). rw (lt-ltb n 256 h) (omega arith, omega arith))
    (λ (h : 256 ≤ n).
    ⊎_elim (λ (k : largest_count < n). rw (le-ltb n 256 h, lt-ltb largest_count n k) (omega arith, omega arith))
    (λ (k : n ≤ largest_count). rw (le-ltb n 256 h, le-ltb largest_count n k) (h, k))
    (below_or_not largest_count n))
    (below_or_not n 256)

-- The sum of E's and M's parts, by the power.
abbrev parts : ℕ → ℕ
parts n = 256 * (56 - count_leading_zeros 64 n) + (n / 2 ^ (56 - count_leading_zeros 64 n - 1) - 256)

encoded_parts : (n : ℕ) → 256 ≤ n → n ≤ largest_count → parts n ≡ encoded n
encoded_parts n l u =
    let (e, zeros, s) = power n l u in
    let shift : 56 - count_leading_zeros 64 n - 1 ≡ e = omega arith in
    omega (arith, quotient e n s shift, encoded_at e n s)

by_size : (n : ℕ) → cond (ltb largest_count n) exceeded (cond (ltb n 256) n (parts (rounded n))) ≡ encoded n
by_size n =
    ⊎_elim (λ (k : largest_count < n). rw (lt-ltb largest_count n k) (sym (above n k)))
    (λ (k : n ≤ largest_count).
    ⊎_elim (λ (h : n < 256). rw (le-ltb largest_count n k, lt-ltb n 256 h) (sym (encoded_small n h)))
    (λ (h : 256 ≤ n). rw (le-ltb largest_count n k, le-ltb n 256 h) (encoded_parts n h k))
    (below_or_not n 256))
    (below_or_not largest_count n)

abbrev count : goal.After-pick-rounded → ℕ
count c = c.pick-rounded.result

told : (c : goal.After-pick-rounded) → (e : ℕ) × (count_leading_zeros 64 (count c) + e ≡ 55) × Scaled e (count c)
told c =
    let (low, high) = in_range c.args.n in
    power (count c) (rw c.pick-rounded.ensures low) (rw c.pick-rounded.ensures high)

least : (c : goal.After-pick-rounded) → 256 ≤ count c / 2 ^ (56 - count_leading_zeros 64 (count c) - 1)
least c =
    let (e, zeros, s) = told c in
    least_quotient e (count c) s (omega arith)

fits : (c : goal.After-pick-rounded) → parts (count c) < 2 ^ 14
fits c =
    let (low, high) = in_range c.args.n in
    omega (arith, encoded_parts (count c) (rw c.pick-rounded.ensures low) (rw c.pick-rounded.ensures high), encoded_fits (count c))

pub overflow_sub-e : goal.overflow_sub-e
overflow_sub-e c =
    omega (arith, told c)

pub overflow_sub-m : goal.overflow_sub-m
overflow_sub-m c =
    omega (arith, told c)

pub overflow_sub-m-2 : goal.overflow_sub-m-2
overflow_sub-m-2 c =
    omega (arith, least c)

pub returns : goal.returns
returns c =
    let n = c.args.n in
    rw (c.pick.ensures, c.pick-within.ensures, c.pick-rounded.ensures) (by_size n)
