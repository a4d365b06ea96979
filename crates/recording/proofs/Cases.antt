-- What proofs on operations go by cases on.
use Prim.Native.Nat.{ℕ, zero, suc, ◌≤◌}
use mathlib.Core.Path.{◌≡◌, refl}
use mathlib.Core.Bool.{Bool, true, ◌&&◌}
use mathlib.Core.List.{List, [], ◌∷◌}
use native.Mathlib.Omega.{arith}
use borrow.Author.Tests.{leb-true}
use lib.Dec.{leb}
use lib.ListN.{get_or}
use Rattle.bits.proofs.Each.{each}
use Rattle.recording.specs.Recording.{field_counts, field_count}

-- No code has more than four fields, since none of the list has, and past its end there is none
abbrev small : List ℕ → Bool
small [] = true
small (n ∷ list) = leb n 4 && small list

taken : (list : List ℕ) (k : ℕ) → small list ≡ true → get_or list k 0 ≤ 4
taken [] k h = omega arith
taken (n ∷ list) zero h = leb-true n 4 (search each)
taken (n ∷ list) (suc k) h = taken list k (search each)

pub fields_at_most : (code : ℕ) → field_count code ≤ 4
unfolding field_count
fields_at_most code = taken field_counts code refl
