-- Lengths of what is written, and a store at the end before the stores in front of it.
use Prim.Native.Nat.{ℕ, zero, suc, ◌+◌, ◌-◌, ◌/◌, ◌%◌, ◌^◌, ◌*◌, ◌≤◌, ◌<◌}
use mathlib.Core.Path.{◌≡◌, refl, ap, ◌∙◌}
use mathlib.Core.List.{List, [], ◌∷◌, ◌++◌}
use mathlib.Core.Logic.{⊎_elim}
use Rattle.std.proofs.Common.{arith, pow-add}
use Rattle.std.proofs.Math.Nat.{pow-suc, pow-zero, one-le-pow, pow-le-pow_right, le-div_iff_mul-le, div-lt_iff_lt-mul}
use borrow.Author.Tests.{lt-ltb, le-ltb}
use lib.ListN.{length, set, length-append}
use lib.Seq.{sets, set_comm}
use Rattle.bits.proofs.Cases.{below_or_not}
use Rattle.text.specs.Text.{digit, digits, digit_count, decimal_count, decimal, hexadecimal}

pub length_digits : (base k n : ℕ) → length (digits base k n) ≡ k
unfolding digits
length_digits base zero n = refl
length_digits base (suc k) n = simp length-append (omega (arith, length_digits base k (n / base)))

count_bound : (base k n : ℕ) → digit_count base k n ≤ k
count_bound base zero n = omega arith
count_bound base (suc k) n =
    ⊎_elim (λ (h : n < base). rw (lt-ltb n base h) (omega arith))
    (λ (h : base ≤ n). rw (le-ltb n base h) (omega (arith, count_bound base k (n / base))))
    (below_or_not n base)

pub length-decimal : (n : ℕ) → length (decimal n) ≤ 20
unfolding decimal decimal_count
length-decimal n = rw (length_digits 10 (digit_count 10 20 n) n) (count_bound 10 20 n)

pub length-hexadecimal : (n : ℕ) → length (hexadecimal n) ≤ 16
unfolding hexadecimal
length-hexadecimal n = rw (length_digits 16 (digit_count 16 16 n) n) (count_bound 16 16 n)

-- The last of some stores may come first.
pub sets_last : (xs l : List ℕ) (i d : ℕ) → sets l i (xs ++ (d ∷ [])) ≡ sets (set l (i + length xs) d) i xs
sets_last [] l i d = let e : i + 0 ≡ i = omega arith in rw e
sets_last (x ∷ xs) l i d =
    let e : i + suc (length xs) ≡ suc i + length xs = omega arith in
    sets_last xs (set l i x) (suc i) d ∙ rw (set_comm l i (suc i + length xs) x d (omega arith), e)

-- Digits stored from the last to the first: one less is left, or none.
more_digits : (out : List ℕ) (at base k rest : ℕ)
    → sets out at (digits base (suc k) rest) ≡ sets (set out (at + k) (digit (rest % base))) at (digits base k (rest / base))
unfolding digits
more_digits out at base k rest = sets_last (digits base k (rest / base)) out at (digit (rest % base)) ∙ rw (length_digits base k (rest / base))

pub one_less : (out : List ℕ) (at base left rest : ℕ) → 0 < left
    → sets out at (digits base left rest) ≡ sets (set out (at + (left - 1)) (digit (rest % base))) at (digits base (left - 1) (rest / base))
one_less out at base zero rest h = absurd (omega arith)
one_less out at base (suc k) rest h = let e : suc k - 1 ≡ k = omega arith in rw e (more_digits out at base k rest)

pub none_left : {all : List ℕ} (out : List ℕ) (at base left rest : ℕ) → left ≡ 0 → sets out at (digits base left rest) ≡ all → out ≡ all
unfolding digits
none_left out at base zero rest e h = h
none_left out at base (suc k) rest e h = absurd (omega arith)

-- A number between two powers of the base has as many digits as the larger one's exponent.
pub count_between : (base most k n : ℕ) → 2 ≤ base → k ≤ most → (0 < k → base ^ k ≤ n) → n < base ^ suc k → digit_count base (suc most) n ≡ suc k
count_between base most zero n two h above below =
    let small : n < 1 * base = rw (pow-suc base 0, pow-zero base) at below in rw (lt-ltb n base (omega arith)) refl
count_between base zero (suc k) n two h above below = absurd (omega arith)
count_between base (suc most) (suc k) n two h above below =
    let some : 0 < base = omega arith in
    let above : base ^ k ≤ n / base = (le-div_iff_mul-le some).1 (omega (arith, above (omega arith), pow-suc base k)) in
    let below : n / base < base ^ suc k = (div-lt_iff_lt-mul some).1 (omega (arith, below, pow-suc base (suc k))) in
    let whole : base ≤ n = omega (arith, (le-div_iff_mul-le {k = base} {x = 1} {y = n} some).0 (omega (arith, above, one-le-pow k base some))) in
    rw (le-ltb n base whole) (ap suc (count_between base most k (n / base) two (omega arith) (λ _. above) below))

-- Four bits make a hexadecimal digit.
pow_four : (k : ℕ) → 16 ^ k ≡ 2 ^ (4 * k)
pow_four zero = refl
pow_four (suc k) =
    let four : 4 * suc k ≡ 4 * k + 4 = omega arith in rw (four, pow-add 2 (4 * k) 4, pow-suc 16 k, pow_four k) refl

four_bits : (n r : ℕ) → r < 64 → 2 ^ r ≤ n → n < 2 * 2 ^ r → digit_count 16 16 n ≡ suc (r / 4)
four_bits n r small above below =
    let k = r / 4 in
    let low : 16 ^ k ≤ 2 ^ r = rw (pow_four k) (pow-le-pow_right (omega arith) (omega arith)) in
    let high : 2 ^ suc r ≤ 16 ^ suc k = rw (pow_four (suc k)) (pow-le-pow_right (omega arith) (omega arith)) in
    count_between 16 15 k n (omega arith) (omega arith) (λ _. omega arith) (omega (arith, pow-suc 2 r))

-- Numbers that differ in their last digit alone have as many digits.
same_count : (most n m : ℕ) → m / 16 ≡ n / 16 → digit_count 16 (suc most) m ≡ digit_count 16 (suc most) n
same_count most n m e =
    ⊎_elim (λ (h : n < 16). rw (lt-ltb n 16 h, lt-ltb m 16 (omega arith))) (λ (h : 16 ≤ n). rw (le-ltb n 16 h, le-ltb m 16 (omega arith), e)) (below_or_not n 16)

-- Where the highest bit of such a number stands tells how many digits n has.
pub bits_counted : (n m r : ℕ) → r < 64 → 2 ^ r ≤ m → m < 2 * 2 ^ r → m / 16 ≡ n / 16 → r / 4 + 1 ≡ digit_count 16 16 n
bits_counted n m r small above below same = omega (arith, four_bits m r small above below, same_count 15 n m same)
