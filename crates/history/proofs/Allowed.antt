-- What acceptance says of an operation's effect: the room is long enough, and a record is made only where the start is a place.
use Prim.Native.Nat.{ℕ, ◌≤◌, ◌<◌}
use mathlib.Core.Path.{sym, subst}
use Rattle.state.specs.declared.State.{State}
use Rattle.state.specs.declared.Running.{Running}
use Rattle.state.proofs.Laws.{start-below}
use Rattle.room.specs.declared.Record.{Record}
use Rattle.room.specs.declared.Effect.{Effect}
use Rattle.room.specs.declared.Effect.TheVariants.{Keep, Push, Clear, ResetTo}
use Rattle.room.specs.Room.{needed}
use Rattle.operation.specs.declared.Operation.{Operation}
use Rattle.operation.specs.Refusal.{not_reset}
use Rattle.operation.proofs.Laws.{Accepts, sized}
use Rattle.operation.specs.Clause.{changed}
use Rattle.operation.proofs.Size.{Resets, is_reset_lem, no_reset, resets, size_kept}
use Rattle.change.specs.Change.{effect_of}
use Rattle.change.proofs.Laws.{of_effect}
use Rattle.history.proofs.Notes.{Takes, takes}

-- What an effect needs, and the size after it, where size and start before it, the room's length and the running count are given.
pub data Allowed (size start room running : ℕ) : Effect → ℕ → Type 0 where
  keeps : Allowed size start room running Keep size
  pushes : {new : Record} → start < size → needed size ≤ room → Takes running new → Allowed size start room running (Push new) size
  clears : needed size ≤ room → Allowed size start room running Clear size
  resets_to : {n : ℕ} → needed n ≤ room → Allowed size start room running (ResetTo n) n

pub allowed : (s : State) (r : Running) (room : ℕ) (o : Operation) → Accepts s o room
    → Allowed s.size s.start room r.count (effect_of s o r) (changed s o).size
unfolding effect_of changed not_reset
allowed s r room o a = go (resets o) a
  where
    go : {o : Operation} → Resets o → Accepts s o room → Allowed s.size s.start room r.count (effect_of s o r) (changed s o).size
    go is_reset_lem a = resets_to a.room_enough
    go (no_reset {o} h) a =
        let same = size_kept s o h in
        let fits : needed s.size ≤ room = rw same at a.room_enough in
        let place : s.start < s.size = start-below s a.is_sound (sized s.size (rw h at a.was_reset)) in
        subst (Allowed s.size s.start room r.count (effect_of s o r)) (sym same)
        (of_effect (λ e. Allowed s.size s.start room r.count e s.size) s r keeps (clears fits) (λ e. pushes place fits (takes s r e)) o h)
