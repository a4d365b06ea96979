-- Bits and fields of a number, in Arm's notation, and membership of a list: the words in which the other definitions are
-- written. Bit 0 is the lowest.
use Rattle.std.specs.Prelude.{ℕ, ◌+◌, ◌*◌, ◌-◌, ◌^◌, ◌/◌, ◌%◌, Bool, false, ◌||◌, List, [], ◌∷◌, eqb}
use Rattle.std.specs.Int.Bits.{bit_and, bit_or}

-- Bit k of x: 0 or 1.
abbrev pub bit : ℕ → ℕ → ℕ
bit k x = x / 2 ^ k % 2

-- Bit k of x is 1.
abbrev pub is_set : ℕ → ℕ → Bool
is_set k x = eqb (bit k x) 1

-- Bits hi:lo of x, as Arm writes a field: hi is not below lo.
abbrev pub part : ℕ → ℕ → ℕ → ℕ
part hi lo x = x / 2 ^ lo % 2 ^ (hi - lo + 1)

-- x as the field at bits hi:lo of a number that is 0 elsewhere. Bits of x that the field has no place for are dropped.
abbrev pub put : ℕ → ℕ → ℕ → ℕ
put hi lo x = x % 2 ^ (hi - lo + 1) * 2 ^ lo

-- x with bit k set, whatever it was.
abbrev pub with_bit : ℕ → ℕ → ℕ
with_bit k x = bit_or x (2 ^ k)

-- x has no bit outside the mask.
abbrev pub within : ℕ → ℕ → Bool
within mask x = eqb (bit_and x mask) x

-- x stands in the list. (The last element is tried first, which is all the same, and how the code tests.)
abbrev pub one_of : List ℕ → ℕ → Bool
one_of [] x = false
one_of (y ∷ ys) x = one_of ys x || eqb x y
