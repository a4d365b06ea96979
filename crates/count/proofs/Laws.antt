-- Laws of the encoding of a cycle count, each over a variable exponent: a count of 256 and more stands between 256 and 512 times a power
-- 2 ^ e, which its leading zeros tell, and 256 + M is its quotient by that power. An encoding stands for the counts between its two ends, and
-- for no other. Assumes nothing.
use mathlib.Core.Path.{◌≡◌, refl, sym, ap, ◌∙◌}
use mathlib.Core.Logic.{⊎_elim, ◌≢◌, ◌↔◌}
use mathlib.Core.Bool.{Bool, true, false, cond}
use Prim.Native.Nat.{ℕ, zero, suc, ◌+◌, ◌*◌, ◌-◌, ◌^◌, ◌/◌, ◌%◌, ◌≤◌, ◌<◌, suc-le-suc}
use native.Mathlib.Nat.{le_dest, le_refl, lt_of_le_of_lt, lt_of_not-le, not-suc-le-zero, le-div_iff_mul-le, div-add-mod', mod-lt, mul-le-mul_right, lt_of_mul-lt-mul_right, suc-mul, pow-suc}
use native.Mathlib.Omega.{arith}
use lib.Count.{count_leading_zeros, leading_top}
use lib.Dec.{eqb}
use lib.Pow.{pow_pos, pow_mono, pow-add}
use borrow.Author.Tests.{lt-ltb, le-ltb, le-leb, lt-leb, ne_eqb}
use Rattle.bits.proofs.Cases.{below_or_not}
use Rattle.count.specs.Count.{largest_count, exceeded, bit_length, exponent, mantissa, encoded, smallest_of, largest_of, decoded, spread_of}
use Rattle.count.specs.declared.Decoded.{Decoded}
use Rattle.count.specs.declared.Spread.{Spread}
use Rattle.count.specs.declared.Decoded.TheVariants.{Known, Exceeded, Refused}

suc_less : (e : ℕ) → suc e - 1 ≡ e
suc_less e = omega arith

-- ---- the power of a count

bit_length_lem : (k j n : ℕ) → j < k → 2 ^ j ≤ n → n < 2 ^ suc j → bit_length k n ≡ suc j
unfolding bit_length
bit_length_lem zero j n h l u = absurd (not-suc-le-zero h)
bit_length_lem (suc k) j n h l u =
    ⊎_elim
    (λ g. rw (lt-leb (2 ^ k) n g) (bit_length_lem k j n (at_least g) l u))
    (λ g. rw (le-leb (2 ^ k) n g) (ap suc (omega (arith, at_most g))))
    (below_or_not n (2 ^ k))
  where
    at_most : 2 ^ k ≤ n → k < suc j
    at_most g = lt_of_not-le (λ f. omega (arith, pow_mono f))

    at_least : n < 2 ^ k → j < k
    at_least g = lt_of_not-le (λ f. omega (arith, pow_mono f))

-- n stands between 256 and 512 times 2 ^ e: its E is e + 1
pub record Scaled (e n : ℕ) : Type 0 where
  pub small : e < 12
  pub low : 256 * 2 ^ e ≤ n
  pub high : n < 512 * 2 ^ e

pub power : (n : ℕ) → 256 ≤ n → n ≤ largest_count → (e : ℕ) × (count_leading_zeros 64 n + e ≡ 55) × Scaled e n
power n l u =
    let (j, zeros, from, to) = leading_top 64 n (omega arith) (omega arith) in
    let least : 7 < j = lt_of_not-le (λ (f : j ≤ 7). omega (arith, pow_mono (suc-le-suc f))) in
    let most : j < 20 = lt_of_not-le (λ (f : 20 ≤ j). omega (arith, pow_mono f)) in
    let (e, sum) = le_dest least in
    let same : 2 ^ j ≡ 256 * 2 ^ e = ap (λ (x : ℕ). 2 ^ x) (sym sum) ∙ pow-add 2 8 e in
    (e, omega arith, omega (arith, pow-suc 2 j))

-- what x over d stands for is not above n where x is not, and falls short of n by less than d where x does not fall short
floored : (x n d : ℕ) → 0 < d → 256 * d ≤ n → x ≤ n → n ≤ x → ((256 + (x / d - 256)) * d ≤ n) × (n < (256 + (x / d - 256)) * d + d)
floored x n d p l under over =
    let least : 256 ≤ x / d = (le-div_iff_mul-le p).1 (omega arith) in
    let sum : 256 + (x / d - 256) ≡ x / d = omega arith in
    rw sum (omega (arith, div-add-mod' x d, mod-lt x p))

module _ (e n : ℕ) (s : Scaled e n) where
  least : 256 ≤ n
  least = omega (arith, pow_pos e)

  most : n ≤ largest_count
  most = omega (arith, pow_mono {i = e} {j = 11} (omega arith))

  exponent_at : exponent n ≡ suc e
  unfolding exponent
  exponent_at =
      rw (
        le-ltb n 256 least,
        bit_length_lem 64 (8 + e) n (omega arith) (omega (arith, pow-add 2 8 e)) (omega (arith, pow-add 2 8 e, pow-suc 2 (8 + e))),
      ) (omega arith)

  rounded : ((256 + mantissa n) * 2 ^ e ≤ n) × (n < (256 + mantissa n) * 2 ^ e + 2 ^ e)
  unfolding mantissa
  rounded = rw (le-ltb n 256 least, exponent_at, suc_less e) (floored _ n (2 ^ e) (pow_pos e) s.low (omega arith) (omega arith))

  mantissa_fits : mantissa n < 256
  mantissa_fits = omega (arith, lt_of_mul-lt-mul_right (2 ^ e) {m = 256 + mantissa n} {n = 512} (lt_of_le_of_lt rounded.0 s.high))

  pub encoded_at : encoded n ≡ 256 * suc e + mantissa n
  unfolding encoded
  encoded_at = rw (le-leb n largest_count most, exponent_at)

  pub quotient : {k : ℕ} → k ≡ e → n / 2 ^ k ≡ 256 + mantissa n
  unfolding mantissa
  quotient h =
      rw (h, le-ltb n 256 least, exponent_at, suc_less e)
      (omega (arith, (le-div_iff_mul-le {x = 256} {y = n} (pow_pos e)).1 s.low))

  pub least_quotient : {k : ℕ} → k ≡ e → 256 ≤ n / 2 ^ k
  least_quotient h = omega (arith, quotient h)

pub encoded_small : (n : ℕ) → n < 256 → encoded n ≡ n
unfolding encoded exponent mantissa
encoded_small n h = rw (le-leb n largest_count (omega arith), lt-ltb n 256 h) (omega arith)

pub above : (n : ℕ) → largest_count < n → encoded n ≡ exceeded
unfolding encoded
above n h = rw (lt-leb n largest_count h)

data Size (n : ℕ) : Type 0 where
  tiny : n < 256 → Size n
  scaled : (e : ℕ) → Scaled e n → Size n
  large : largest_count < n → Size n

size : (n : ℕ) → Size n
size n =
    ⊎_elim large (λ u. ⊎_elim tiny (λ l. let (e, _, s) = power n l u in scaled e s) (below_or_not n 256)) (below_or_not largest_count n)

-- CC has 14 bits
pub encoded_fits : (n : ℕ) → encoded n < 2 ^ 14
encoded_fits n = go (size n)
  where
    go : Size n → encoded n < 2 ^ 14
    go (tiny h) = omega (arith, encoded_small n h)
    go (scaled e s) = omega (arith, encoded_at e n s, mantissa_fits e n s)
    go (large h) = omega (arith, above n h)

-- ---- what a CC value stands for

pub known : (c : ℕ) → c / 256 ≤ 12 → decoded c ≡ Known (smallest_of (c / 256) (c % 256)) (largest_of (c / 256) (c % 256))
unfolding decoded
known c h = rw (ne_eqb c exceeded (λ x. omega arith), le-leb (c / 256) 12 h)

decoded_small : (c : ℕ) → c < 256 → decoded c ≡ Known c c
unfolding smallest_of largest_of
decoded_small c h =
    let e : c / 256 ≡ 0 = omega arith in
    let m : c % 256 ≡ c = omega arith in
    known c (omega arith) ∙ rw (e, m)

-- The ends of an E of e + 1 above M: the smallest count is 256 + M times 2 ^ e.
decoded_at : (e m : ℕ) → e < 12 → m < 256 → decoded (256 * suc e + m) ≡ Known ((256 + m) * 2 ^ e) (largest_of (suc e) m)
unfolding smallest_of
decoded_at e m s h =
    let e' : (256 * suc e + m) / 256 ≡ suc e = omega arith in
    let m' : (256 * suc e + m) % 256 ≡ m = omega arith in
    known (256 * suc e + m) (omega arith) ∙ rw (e', m', ne_eqb (suc e) 0 (λ x. omega arith), suc_less e)

-- Behind the largest one comes the smallest count of the next M, which is 2 ^ e further on.
pub next_smallest : (e m : ℕ) → suc (largest_of (suc e) m) ≡ (256 + m) * 2 ^ e + 2 ^ e
unfolding smallest_of largest_of
next_smallest e m = rw (ne_eqb (suc e) 0 (λ x. omega arith), suc_less e) (omega (arith, pow_pos e))

pub decoded-exceeded : decoded exceeded ≡ Exceeded
unfolding decoded
decoded-exceeded = refl

-- nothing, exactly where E is above 12 and CC is not 0x3FFF
pub refused : (c : ℕ) → (decoded c ≡ Refused) ↔ ((c ≢ exceeded) × (12 < c / 256))
unfolding decoded
refused c = (
  λ p. (
    λ q. let z : ◌≡◌ {A = ℕ} 0 1 = cc (ap decoded q, decoded-exceeded) in omega arith,
    lt_of_not-le (λ f. let z : ◌≡◌ {A = ℕ} 0 1 = cc (known c f) in omega arith),
  ),
  λ r. rw (ne_eqb c exceeded r.0, lt-leb (c / 256) 12 r.1),
)

no_count : (b : Bool) {low high : ℕ} → cond b Exceeded Refused ≡ Known low high → ⊥
no_count true p = let z : ◌≡◌ {A = ℕ} 0 1 = cc in omega arith
no_count false p = let z : ◌≡◌ {A = ℕ} 0 1 = cc in omega arith

-- A CC that stands for counts, and their two ends: below 256 it is the count itself, else an E of e + 1 above M.
data Stands (c low high : ℕ) : Type 0 where
  whole : c < 256 → low ≡ c → high ≡ c → Stands c low high
  rounds : (e m : ℕ) → e < 12 → m < 256 → c ≡ 256 * suc e + m → low ≡ (256 + m) * 2 ^ e → high ≡ largest_of (suc e) m → Stands c low high

stands : (c low high : ℕ) → decoded c ≡ Known low high → Stands c low high
unfolding decoded
stands c low high p = ⊎_elim none (λ u. ⊎_elim short (wide u) (below_or_not c 256)) (below_or_not 12 (c / 256))
  where
    short : c < 256 → Stands c low high
    short h = whole h (cc (decoded_small c h)) (cc (decoded_small c h))

    wide : c / 256 ≤ 12 → 256 ≤ c → Stands c low high
    wide u l =
        let e : ℕ = c / 256 - 1 in
        let m : ℕ = c % 256 in
        let parts : c ≡ 256 * suc e + m = omega arith in
        let ends = decoded_at e m (omega arith) (omega arith) in
        rounds e m (omega arith) (omega arith) parts (cc (ap decoded parts, ends)) (cc (ap decoded parts, ends))

    none : 12 < c / 256 → Stands c low high
    none h = absurd (no_count (eqb c exceeded) (rw (lt-leb (c / 256) 12 h) at p))

-- ---- there and back

-- A count lies between the two ends of its encoding, and exceeds the lower one by at most a 256th part of that end.
pub rounding : (n : ℕ) → n ≤ largest_count
    → (low : ℕ) × (high : ℕ) × (decoded (encoded n) ≡ Known low high) × (low ≤ n) × (n ≤ high) × (256 * (n - low) ≤ low)
rounding n u = go (size n)
  where
    go : Size n → (low : ℕ) × (high : ℕ) × (decoded (encoded n) ≡ Known low high) × (low ≤ n) × (n ≤ high) × (256 * (n - low) ≤ low)
    go (tiny h) = (n, n, ap decoded (encoded_small n h) ∙ decoded_small n h, le_refl n, le_refl n, omega arith)
    go (scaled e s) = (
      (256 + mantissa n) * 2 ^ e,
      largest_of (suc e) (mantissa n),
      ap decoded (encoded_at e n s) ∙ decoded_at e (mantissa n) s.small (mantissa_fits e n s),
      omega (arith, rounded e n s),
      omega (arith, rounded e n s, next_smallest e (mantissa n)),
      omega (arith, rounded e n s, mul-le-mul_right {m = 256} {n = 256 + mantissa n} (2 ^ e) (omega arith)),
    )
    go (large h) = absurd (omega arith)

-- a multiple of d that is not above n, and one from which n is less than d away
not_above : (a b n d : ℕ) → a * d ≤ n → n < b * d + d → a ≤ b
not_above a b n d l u = omega (arith, lt_of_mul-lt-mul_right d {m = a} {n = suc b} (lt_of_le_of_lt l (rw (suc-mul b d) u)))

-- Every number between the two ends of an encoding has that encoding.
pub shared : (c low high n : ℕ) → decoded c ≡ Known low high → low ≤ n → n ≤ high → (encoded n ≡ c) × (n ≤ largest_count)
shared c low high n p l u = go (stands c low high p)
  where
    go : Stands c low high → (encoded n ≡ c) × (n ≤ largest_count)
    go (whole h is-low is-high) = let same : n ≡ c = omega arith in rw same (encoded_small c h, omega arith)
    go (rounds e m s h parts is-low is-high) =
        let first : 256 * 2 ^ e ≤ (256 + m) * 2 ^ e = mul-le-mul_right (2 ^ e) (omega arith) in
        let last : suc (256 + m) * 2 ^ e ≤ 512 * 2 ^ e = mul-le-mul_right (2 ^ e) (omega arith) in
        let under : n < (256 + m) * 2 ^ e + 2 ^ e = omega (arith, next_smallest e m) in
        let k : Scaled e n = record { small = s; low = omega arith; high = omega (arith, suc-mul (256 + m) (2 ^ e)) } in
        let (from, to) = rounded e n k in
        let at_least = not_above (256 + m) (256 + mantissa n) n (2 ^ e) (omega arith) to in
        let at_most = not_above (256 + mantissa n) (256 + m) n (2 ^ e) from under in
        (omega (arith, encoded_at e n k), most e n k)

-- A number has an encoding that stands for counts exactly if it lies between the two ends.
pub between : (c low high n : ℕ) → decoded c ≡ Known low high → (encoded n ≡ c) ↔ ((low ≤ n) × (n ≤ high))
between c low high n p = (λ e. ⊎_elim (exceeds e) (lies e) (below_or_not largest_count n), λ b. (shared c low high n p b.0 b.1).0)
  where
    exceeds : encoded n ≡ c → largest_count < n → (low ≤ n) × (n ≤ high)
    exceeds e h = let z : ◌≡◌ {A = ℕ} 0 1 = cc (ap decoded (sym e ∙ above n h), decoded-exceeded) in absurd (omega arith)

    lies : encoded n ≡ c → n ≤ largest_count → (low ≤ n) × (n ≤ high)
    lies e h =
        let (low', high', is, l, u, near) = rounding n h in
        let same_low : low ≡ low' = cc (ap decoded e) in
        let same-high : high ≡ high' = cc (ap decoded e) in
        (omega arith, omega arith)

-- The ends of an encoding are in order, and both are counts.
pub in_order : (c low high : ℕ) → decoded c ≡ Known low high → (low ≤ high) × (high ≤ largest_count)
in_order c low high p = let ordered = go (stands c low high p) in (ordered, (shared c low high high p ordered (le_refl high)).1)
  where
    go : Stands c low high → low ≤ high
    go (whole h is-low is-high) = omega arith
    go (rounds e m s h parts is-low is-high) = omega (arith, next_smallest e m, pow_pos e)

-- ---- the four numbers

-- Four numbers hold a number: they are no refusal, their lower end is not above it, and where there is an upper end, that is not below it, and it
-- exceeds the lower end by at most a 256th part of that end.
pub record Holds (s : Spread) (n : ℕ) : Type 0 where
  pub accepted : s.number ≡ 0
  pub from : s.low ≤ n
  pub to : s.bounded ≡ 1 → n ≤ s.high
  pub near : s.bounded ≡ 1 → 256 * (n - s.low) ≤ s.low

-- The spread of a number's encoding holds the number, however large it is.
pub in_spread : (n : ℕ) → Holds (spread_of (decoded (encoded n))) n
in_spread n = ⊎_elim exceeds counted (below_or_not largest_count n)
  where
    exceeds : largest_count < n → Holds (spread_of (decoded (encoded n))) n
    exceeds h =
        rw (above n h, decoded-exceeded)
        (record { accepted = refl; from = omega arith; to = λ b. absurd (omega arith); near = λ b. absurd (omega arith) })

    counted : n ≤ largest_count → Holds (spread_of (decoded (encoded n))) n
    counted h =
        let (low, high, is, from, to, near) = rounding n h in
        rw is (record { accepted = refl; from = from; to = λ b. to; near = λ b. near })

-- Both ends of any encoding are at most 1,048,576.
pub ends_small : (c : ℕ) → ((spread_of (decoded c)).low ≤ 1048576) × ((spread_of (decoded c)).high ≤ 1048576)
ends_small c = go (decoded c) refl
  where
    go : (d : Decoded) → decoded c ≡ d → ((spread_of d).low ≤ 1048576) × ((spread_of d).high ≤ 1048576)
    go (Known low high) e = omega (arith, in_order c low high e)
    go Exceeded e = omega arith
    go Refused e = omega arith
