-- Only a reset changes the size.
use Prim.Native.Nat.{ℕ}
use mathlib.Core.Path.{◌≡◌, refl}
use mathlib.Core.Bool.{Bool, true, false, cond}
use lib.Dec.{eqb}
use Rattle.bits.proofs.Cases.{never}
use Rattle.answer.specs.Answer.{is_done}
use Rattle.state.specs.declared.State.{State}
use Rattle.freeze.proofs.Laws.{size_stays}
use Rattle.access.specs.Access.{write_outcome, meant, register_written}
use Rattle.operation.specs.declared.Operation.{Operation}
use Rattle.operation.specs.declared.Operation.TheVariants.{Reset, Branch, Exception, Return, Platform, Read, Write, Iall, Halt, Resume, Freeze, Unknown}
use Rattle.operation.specs.Operation.{code_of}
use Rattle.operation.specs.Clause.{changed}

-- An operation is a reset, or its code is not 0.
pub data Resets : Operation → Type 0 where
  is_reset_lem : {size v1p1 : ℕ} → Resets (Reset size v1p1)
  no_reset : {o : Operation} → eqb (code_of o) 0 ≡ false → Resets o

pub resets : (o : Operation) → Resets o
resets (Reset size v1p1) = is_reset_lem
resets (Branch kind m source target) = no_reset refl
resets (Exception kind level source target) = no_reset refl
resets (Return level m source target) = no_reset refl
resets (Platform p) = no_reset refl
resets (Read r) = no_reset refl
resets (Write r value) = no_reset refl
resets Iall = no_reset refl
resets (Halt source) = no_reset refl
resets (Resume target level) = no_reset refl
resets (Freeze group physical virtual_offset guest_offset) = no_reset refl
resets Unknown = no_reset refl

pub size_kept : (s : State) (o : Operation) → eqb (code_of o) 0 ≡ false → (changed s o).size ≡ s.size
unfolding changed register_written
size_kept s (Reset size v1p1) h = never (cc)
size_kept s (Branch kind m source target) h = refl
size_kept s (Exception kind level source target) h = refl
size_kept s (Return level m source target) h = refl
size_kept s (Platform p) h = refl
size_kept s (Read r) h = refl
size_kept s (Write r value) h = go (is_done (write_outcome s r))
  where
    go : (t : Bool) → (cond t (register_written s (meant s r) value) s).size ≡ s.size
    go true = refl
    go false = refl
size_kept s Iall h = refl
size_kept s (Halt source) h = refl
size_kept s (Resume target level) h = refl
size_kept s (Freeze group physical virtual_offset guest_offset) h = size_stays s group physical virtual_offset guest_offset
size_kept s Unknown h = refl
