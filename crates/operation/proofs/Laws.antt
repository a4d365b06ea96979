-- What acceptance implies: none of the table's conditions holds.
use Prim.Native.Nat.{ℕ, zero, suc, ◌≤◌}
use mathlib.Core.Path.{◌≡◌, refl}
use mathlib.Core.Bool.{Bool, true, false, ◌&&◌, not}
use mathlib.Core.List.{List, ◌∷◌}
use native.Mathlib.Omega.{arith}
use borrow.Author.Tests.{not-false, ltb-false, eqb-true}
use lib.Dec.{eqb}
use lib.ListN.{drop}
use Rattle.bits.proofs.Cases.{never}
use Rattle.state.specs.declared.State.{State}
use Rattle.state.specs.Sound.{sound}
use Rattle.room.specs.Room.{needed}
use Rattle.operation.specs.declared.Operation.{Operation}
use Rattle.operation.specs.Clause.{changed}
use Rattle.operation.specs.Refusal.{unknown_code, not_reset, outside_list, wrong_halted, wrong_level, room_too_short, first_that, table, refusal_of}

pub record Accepts (s : State) (o : Operation) (room : ℕ) : Type 0 where
  pub is_sound : sound s ≡ true
  pub known_code : unknown_code o ≡ false
  pub was_reset : not_reset s o ≡ false
  pub in_list : outside_list o ≡ false
  pub halted_or_not : wrong_halted s o ≡ false
  pub permitted : wrong_level s o ≡ false
  pub room_enough : needed (changed s o).size ≤ room

-- Where the first of some lines is none, its condition does not hold, and the first of the others is none.
no_line : (n : ℕ) (t : Bool) (lines : List (ℕ × Bool)) → first_that ((suc n, t) ∷ lines) ≡ 0 → (t ≡ false) × (first_that lines ≡ 0)
no_line n true lines h = absurd (omega arith)
no_line n false lines h = (refl, h)

pub accepts : (s : State) (o : Operation) (room : ℕ) → refusal_of s o room ≡ 0 → Accepts s o room
unfolding refusal_of room_too_short
accepts s o room h =
    let (a, h7) = no_line 6 (not (sound s)) (drop 1 (table s o room)) h in
    let (b, h2) = no_line 1 (unknown_code o) (drop 2 (table s o room)) h7 in
    let (c, h3) = no_line 2 (not_reset s o) (drop 3 (table s o room)) h2 in
    let (d, h4) = no_line 3 (outside_list o) (drop 4 (table s o room)) h3 in
    let (e, h8) = no_line 7 (wrong_halted s o) (drop 5 (table s o room)) h4 in
    let (f, h5) = no_line 4 (wrong_level s o) (drop 6 (table s o room)) h8 in
    let (g, h6) = no_line 5 (room_too_short s o room) (drop 7 (table s o room)) h5 in
    record {
      is_sound = not-false (sound s) a;
      known_code = b;
      was_reset = c;
      in_list = d;
      halted_or_not = e;
      permitted = f;
      room_enough = ltb-false room (needed (changed s o).size) g;
    }

-- Where there was a reset, the size is not 0.
pub sized : (size : ℕ) → (eqb size 0 && true) ≡ false → 1 ≤ size
sized zero h = never (cc)
sized (suc size) h = omega arith

-- The same from the test on the refusal.
pub accepts_if : (s : State) (o : Operation) (room : ℕ) → eqb (refusal_of s o room) 0 ≡ true → Accepts s o room
accepts_if s o room h = accepts s o room (eqb-true (refusal_of s o room) 0 h)
