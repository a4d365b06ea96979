-- The size after the operation, as defined: only a reset changes it.
use Prim.Native.Nat.{ℕ}
use mathlib.Core.Path.{◌≡◌, refl, sym}
use Rattle.state.specs.declared.State.{State}
use Rattle.operation.specs.declared.Operation.{Operation}
use Rattle.operation.specs.declared.Operation.TheVariants.{Reset}
use Rattle.operation.specs.Clause.{changed}
use Rattle.operation.proofs.Size.{Resets, is_reset_lem, no_reset, resets, size_kept}
use Rattle.operation.proofs.size_after.Goals as goal

other : (s : State) (o : Operation) → ((size v1p1 : ℕ) → o ≡ Reset size v1p1 → ⊥) → Resets o → s.size ≡ (changed s o).size
other s o none (is_reset_lem {size} {v1p1}) = absurd (none size v1p1 refl)
other s o none (no_reset e) = sym (size_kept s o e)

pub returns-in-Reset : goal.returns-in-Reset
unfolding changed
returns-in-Reset c =
    rw c.in-Reset.is

pub returns-in_default : goal.returns-in_default
returns-in_default c =
    other c.args.s c.args.o c.in_default.not-Reset (resets c.args.o)
