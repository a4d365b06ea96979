-- A sum as code holds it: a number of 64 bits, or that it passed the largest of them.
use Rattle.std.specs.Prelude.{ℕ, ◌+◌, Bool, true, false, cond, leb}
use Rattle.count.specs.declared.Spread.{Spread}
use Rattle.count.specs.Count.{from_to, at_least, refused_with}
use Rattle.sum.specs.Sum.{largest_number}
use Rattle.std.specs.Prelude.{Some, None, Option}

-- A number as such a sum.
unfoldable pub total : ℕ → Option ℕ
total n = cond (leb n largest_number) (Some n) None

-- A sum with one number more. One that has passed stays so.
unfoldable pub plus : Option ℕ → ℕ → Option ℕ
plus (Some sum) n = total (sum + n)
plus None n = None

-- What is answered of two sums: `sum_of` of what they hold.
unfoldable pub both_ends : Option ℕ → Option ℕ → Bool → Spread
both_ends None high bounded = refused_with 9
both_ends (Some low) high false = at_least low
both_ends (Some low) (Some high) true = from_to low high
both_ends (Some low) None true = refused_with 9
