-- A cycle count in BRBINF's field CC: eight bits of mantissa M below six bits of exponent E. Document 01, "Cycles", second
-- paragraph; document 02, "Four"; docs/MANUAL.md, "Cycles" and "The spread of a count"; Arm's BRBINF<n>_EL1.CC.
use Rattle.std.specs.Prelude.{ℕ, zero, suc, ◌+◌, ◌*◌, ◌-◌, ◌^◌, ◌/◌, ◌%◌, cond, leb, ltb, eqb}
use Rattle.count.specs.declared.Decoded.{Decoded}
use Rattle.count.specs.declared.Decoded.TheVariants.{Known, Exceeded, Refused}
use Rattle.count.specs.declared.Spread.{Spread}

-- The largest count of a cycle counter of 20 bits: R_HQXNW, BRBIDR0_EL1.CC is 0b0101.
abbrev pub largest_count : ℕ
largest_count = 1048575

-- CC with all its bits set says that the count went past the counter: R_XGSSZ.
abbrev pub exceeded : ℕ
exceeded = 0x3FFF

-- How many binary digits n has, where it has at most so many: k + 1 where its digit of weight 2^k is there, else those of at
-- most k. 0 has none.
unfoldable pub bit_length : ℕ → ℕ → ℕ
bit_length zero n = 0
bit_length (suc k) n = cond (leb (2 ^ k) n) (suc k) (bit_length k n)

-- E: 0 for a count below 256, which M holds whole; for a larger one the number of its binary digits past the first eight.
unfoldable pub exponent : ℕ → ℕ
exponent n = cond (ltb n 256) 0 (bit_length 64 n - 8)

-- M: a count below 256 itself; of a larger one the eight digits after the first, which is always 1 and is left out (256).
-- The lower E-1 digits are dropped: a count is rounded towards zero.
unfoldable pub mantissa : ℕ → ℕ
mantissa n = cond (ltb n 256) n (n / 2 ^ (exponent n - 1) - 256)

-- CC of a count: E above M where the counter holds it (R_JZWPG), else all ones (R_XGSSZ).
unfoldable pub encoded : ℕ → ℕ
encoded n = cond (leb n largest_count) (256 * exponent n + mantissa n) exceeded

-- The smallest count that E and M stand for, where the E-1 digits that were dropped are all zeros. Arm: if IsZero(E) then
-- UInt(M) else UInt('1':M:Zeros(UInt(E)-1)).
unfoldable pub smallest_of : ℕ → ℕ → ℕ
smallest_of e m = cond (eqb e 0) m ((256 + m) * 2 ^ (e - 1))

-- The largest count that they stand for, where those digits are all ones: 2^(E-1) less 1 above the smallest (document 02, "Four").
unfoldable pub largest_of : ℕ → ℕ → ℕ
largest_of e m = cond (eqb e 0) m (smallest_of e m + (2 ^ (e - 1) - 1))

-- What a CC says: the smallest and the largest count that share it. A count of 20 bits has no E above 12, so that such a CC,
-- but for all ones, says nothing.
unfoldable pub decoded : ℕ → Decoded
decoded cc =
    cond (eqb cc exceeded) Exceeded
    (cond (leb (cc / 256) 12) (Known (smallest_of (cc / 256) (cc % 256)) (largest_of (cc / 256) (cc % 256))) Refused)

-- Four numbers with both ends.
abbrev pub from_to : ℕ → ℕ → Spread
from_to low high = record { number = 0; low = low; high = high; bounded = 1 }

-- Four numbers without an upper end.
abbrev pub at_least : ℕ → Spread
at_least low = record { number = 0; low = low; high = 0; bounded = 0 }

-- The four numbers of a refusal.
abbrev pub refused_with : ℕ → Spread
refused_with n = record { number = n; low = 0; high = 0; bounded = 0 }

-- What was decoded as four numbers: both ends; where the count exceeded the counter, 1,048,576 and no upper end; or refusal 4.
abbrev pub spread_of : Decoded → Spread
spread_of (Known low high) = from_to low high
spread_of Exceeded = at_least 1048576
spread_of Refused = refused_with 4
