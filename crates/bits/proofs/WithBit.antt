-- A number with bit 7 set: that bit is 1, and every other bit is as it was.
use Prim.Native.Nat.{ℕ, ◌+◌, ◌*◌, ◌/◌, ◌%◌}
use native.Mathlib.Omega.{arith}
use mathlib.Core.Path.{◌≡◌, sym, ap, ◌∙◌}
use mathlib.Core.Bool.{true}
use borrow.Author.Tests.{eq-eqb}
use lib.Bits.{bit_or, or_add_and, and_high}
use Rattle.bits.specs.Bits.{is_set, with_bit}

-- The bit, where it was set already, is not counted twice.
once : (x : ℕ) → with_bit 7 x + x / 128 % 2 * 128 ≡ x + 128
once x = ap (λ (n : ℕ). bit_or x 128 + n) (sym (and_high x 1 7)) ∙ or_add_and x 128

pub is_set_lem : (x : ℕ) → is_set 7 (with_bit 7 x) ≡ true
is_set_lem x = eq-eqb (with_bit 7 x / 128 % 2) 1 (omega (arith, once x))

-- Bits 63:8, and bits 6:0.
pub others_stay : (x : ℕ) → (with_bit 7 x / 256 ≡ x / 256) × (with_bit 7 x % 128 ≡ x % 128)
others_stay x = (omega (arith, once x), omega (arith, once x))
