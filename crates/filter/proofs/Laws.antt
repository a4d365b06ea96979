-- The filter in Arm's own words. The definition asks whether the type's filter bit differs from EnI; R_RBDXK, R_VBGTZ, R_CKNBH,
-- R_KKLDV, R_BBNSZ and R_FJYVT each ask whether the bit is 1 and EnI 0, or the bit 0 and EnI 1. The two are one.
use Prim.Native.Nat.{ℕ, zero, suc, ◌<◌}
use mathlib.Core.Path.{◌≡◌, refl}
use mathlib.Core.Bool.{◌&&◌, ◌||◌, not}
use native.Mathlib.Omega.{arith}
use lib.Dec.{eqb}
use Rattle.bits.specs.Bits.{bit, is_set}
use Rattle.filter.specs.declared.BranchType.{BranchType}
use Rattle.filter.specs.Filter.{filter_bit, passes_filter}

bits_differ : (x y : ℕ) → x < 2 → y < 2 → not (eqb x y) ≡ (eqb x 1 && not (eqb y 1) || not (eqb x 1) && eqb y 1)
bits_differ zero zero hx hy = refl
bits_differ zero (suc zero) hx hy = refl
bits_differ zero (suc (suc y)) hx hy = absurd (omega arith)
bits_differ (suc zero) zero hx hy = refl
bits_differ (suc zero) (suc zero) hx hy = refl
bits_differ (suc zero) (suc (suc y)) hx hy = absurd (omega arith)
bits_differ (suc (suc x)) y hx hy = absurd (omega arith)

bit_below : (k x : ℕ) → bit k x < 2
bit_below k x = omega arith

pub as_arm_says : (brbfcr : ℕ) (t : BranchType)
    → passes_filter brbfcr t ≡ (is_set (filter_bit t) brbfcr && not (is_set 16 brbfcr) || not (is_set (filter_bit t) brbfcr) && is_set 16 brbfcr)
unfolding passes_filter
as_arm_says brbfcr t = bits_differ _ _ (bit_below (filter_bit t) brbfcr) (bit_below 16 brbfcr)
