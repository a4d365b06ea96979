-- What proofs go by cases on.
use Prim.Native.Nat.{ℕ, ◌<◌, ◌≤◌}
use mathlib.Core.Path.{◌≡◌, refl}
use mathlib.Core.Bool.{Bool, true, false, ◌||◌}
use mathlib.Core.Logic.{◌⊎◌, inl, inr}
use native.Mathlib.Omega.{arith}
use borrow.Author.Tests.{ltb-true, ltb-false}
use lib.Dec.{ltb}

-- What follows from 0 being 1: anything. `never (cc)` closes a clash of constructors.
pub never {ℓ} : {A : Type ℓ} → ◌≡◌ {A = ℕ} 0 1 → A
never e = absurd (omega arith)

-- A test holds or it does not.
pub either : (t : Bool) → (t ≡ true) ⊎ (t ≡ false)
either true = inl refl
either false = inr refl

-- Of two tests one holds, and which.
pub or_true : (t : Bool) → t || true ≡ true
or_true true = refl
or_true false = refl

pub one_of_two : (t u : Bool) → t || u ≡ true → (t ≡ true) ⊎ (u ≡ true)
one_of_two true u h = inl refl
one_of_two false u h = inr h

-- A number is below another or it is not.
pub below_or_not : (a b : ℕ) → (a < b) ⊎ (b ≤ a)
below_or_not a b = go (ltb a b) refl
  where
    go : (t : Bool) → ltb a b ≡ t → (a < b) ⊎ (b ≤ a)
    go true e = inl (ltb-true a b e)
    go false e = inr (ltb-false a b e)
