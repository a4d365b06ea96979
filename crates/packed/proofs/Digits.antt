-- A number in decimal, as `list` writes it, is a word, and the word is the number.
use Prim.Native.Nat.{ℕ, zero, suc, ◌+◌, ◌*◌, ◌^◌, ◌/◌, ◌%◌, ◌≤◌, ◌<◌}
use mathlib.Core.Path.{◌≡◌, refl, ap, ◌∙◌}
use mathlib.Core.Bool.{Bool, true, false, ◌&&◌}
use mathlib.Core.Logic.{⊎_elim}
use mathlib.Core.List.{List, [], ◌∷◌, ◌++◌}
use native.Mathlib.Nat.{pow-suc}
use native.Mathlib.Omega.{arith}
use borrow.Author.Tests.{lt-ltb, le-ltb, ne_eqb}
use lib.Dec.{eqb}
use lib.ListN.{length}
use Rattle.std.proofs.Common.{◌-◌, Some, Ok, Err}
use Rattle.bits.proofs.Cases.{below_or_not, never}
use Rattle.text.specs.Text.{digit, digits, decimal_count, decimal}
use Rattle.text.proofs.Laws.{length_digits}
use Rattle.notation.specs.Text.{digit_of}
use Rattle.notation.specs.Words.{Meaning, onward, with_digit, digits_of, is_prefixed, meaning_of}

-- Digits behind digits.
behind : (base m : ℕ) (w rest : List ℕ)
    → ((more : ℕ) → digits_of base more w ≡ Ok m → digits_of base more (w ++ rest) ≡ digits_of base m rest) → (first : Meaning)
    → onward (λ more. digits_of base more w) first ≡ Ok m
    → onward (λ more. digits_of base more (w ++ rest)) first ≡ digits_of base m rest
behind base m w rest f (Ok more) e = f more e
behind base m w rest f (Err problem) e = never (cc)

more_digits : (base : ℕ) (w : List ℕ) (v m : ℕ) (rest : List ℕ) → digits_of base v w ≡ Ok m
    → digits_of base v (w ++ rest) ≡ digits_of base m rest
unfolding digits_of
more_digits base [] v m rest e = let same : v ≡ m = cc in rw same
more_digits base (b ∷ w) v m rest e = behind base m w rest (λ more f. more_digits base w more m rest f) (with_digit base v b) e

-- One digit.
digit_byte : (d : ℕ) → d < 10 → digit d ≡ 48 + d
digit_byte d h = rw (lt-ltb d 10 h)

digit_read : (d : ℕ) → d < 10 → digit_of 10 (digit d) ≡ Some d
digit_read d h =
    let same : 48 + d - 48 ≡ d = omega arith in rw (digit_byte d h, le-ltb (48 + d) 48 (omega arith), lt-ltb (48 + d) 58 (omega arith), same, lt-ltb d 10 h)

one_digit : (v d : ℕ) → d < 10 → v * 10 + d < 2 ^ 64 → digits_of 10 v (digit d ∷ []) ≡ Ok (v * 10 + d)
unfolding digits_of
one_digit v d h small = rw (digit_read d h, lt-ltb (v * 10 + d) (2 ^ 64) small)

digits_read : (k n : ℕ) → n < 10 ^ k → n < 2 ^ 64 → digits_of 10 0 (digits 10 k n) ≡ Ok n
unfolding digits digits_of
digits_read zero n h small = let none : 0 ≡ n = omega arith in rw none
digits_read (suc k) n h small =
    let power = pow-suc 10 k in
    let whole : n / 10 * 10 + n % 10 ≡ n = omega arith in
    more_digits 10 (digits 10 k (n / 10)) 0 (n / 10) (digit (n % 10) ∷ []) (digits_read k (n / 10) (omega arith) (omega arith))
    ∙ one_digit (n / 10) (n % 10) (omega arith) (omega arith)
    ∙ ap (λ n. Ok n) whole

-- How many digits a number has.
count_covers : (most n : ℕ) → n < 10 ^ most → n < 10 ^ decimal_count most n
unfolding decimal_count
count_covers zero n h = h
count_covers (suc most) n h =
    ⊎_elim (λ (l : n < 10). rw (lt-ltb n 10 l) (omega arith))
    (λ (g : 10 ≤ n).
    rw (le-ltb n 10 g)
    (let power = pow-suc 10 most in
    let rest = count_covers most (n / 10) (omega arith) in
    let more = pow-suc 10 (decimal_count most (n / 10)) in
    omega arith))
    (below_or_not n 10)

some_digit : (most n : ℕ) → 1 ≤ decimal_count (suc most) n
unfolding decimal_count
some_digit most n =
    ⊎_elim (λ (l : n < 10). rw (lt-ltb n 10 l) (omega arith)) (λ (g : 10 ≤ n). rw (le-ltb n 10 g) (omega arith)) (below_or_not n 10)

-- Bytes that are digits from 0 to 9.
pub data Plain : List ℕ → Type 0 where
  none : Plain []
  byte : {b : ℕ} {w : List ℕ} → 48 ≤ b → b < 58 → Plain w → Plain (b ∷ w)

plain_both : {v w : List ℕ} → Plain v → Plain w → Plain (v ++ w)
plain_both none q = q
plain_both (byte l h p) q = byte l h (plain_both p q)

plain_digits : (k n : ℕ) → Plain (digits 10 k n)
unfolding digits
plain_digits zero n = none
plain_digits (suc k) n =
    let last : digit (n % 10) ≡ 48 + n % 10 = digit_byte (n % 10) (omega arith) in
    plain_both (plain_digits k (n / 10)) (byte (omega arith) (omega arith) none)

pub plain_decimal : (n : ℕ) → Plain (decimal n)
unfolding decimal
plain_decimal n = plain_digits (decimal_count 20 n) n

and_false : (t : Bool) → t && false ≡ false
and_false true = refl
and_false false = refl

no_prefix : {w : List ℕ} → Plain w → is_prefixed w ≡ false
unfolding is_prefixed
no_prefix none = refl
no_prefix (byte {b} l h none) = and_false (eqb b 48)
no_prefix (byte {b = a} l h (byte {b} m i p)) = rw (ne_eqb b 88 (omega arith), ne_eqb b 120 (omega arith)) (and_false (eqb a 48))

pub some_decimal : (n : ℕ) → 0 < length (decimal n)
unfolding decimal
some_decimal n = rw (length_digits 10 (decimal_count 20 n) n) (omega (arith, some_digit 19 n))

as_number : (n : ℕ) → n < 2 ^ 64 → digits_of 10 0 (decimal n) ≡ Ok n
unfolding decimal
as_number n h = digits_read (decimal_count 20 n) n (count_covers 20 n (omega arith)) h

pub decimal_number : (n : ℕ) → n < 2 ^ 64 → meaning_of (decimal n) ≡ Ok n
unfolding meaning_of
decimal_number n h = rw (no_prefix (plain_decimal n)) (as_number n h)
