-- A state that is stored is the state that is loaded, and lent numbers into which their own state is stored are as they were.
use Prim.Native.Nat.{ℕ, ◌≤◌, ◌<◌}
use mathlib.Core.Path.{◌≡◌, sym, ◌∙◌}
use mathlib.Core.List.{List, ◌++◌}
use mathlib.Core.Bool.{true, false}
use mathlib.Core.Logic.{◌⊎◌, inl, inr, ⊎_elim}
use native.Mathlib.Omega.{arith}
use borrow.Author.Tests.{lt-leb, le-leb, ltb-true, eqb-true}
use lib.Dec.{leb, ltb}
use lib.ListN.{length, drop}
use lib.Seq.{sets-eq, set-get_or}
use Rattle.bits.proofs.Cases.{below_or_not, either, never}
use Rattle.bits.proofs.Each.{each}
use Rattle.state.specs.declared.State.{State}
use Rattle.state.specs.Sound.{is_place, sound}
use Rattle.state.specs.Parts.{state_numbers, state_of, words_of}
use Rattle.state.specs.Words.{stored, judged, loaded}
use Rattle.std.proofs.Common.{Some}

pub load_stored : (s : State) (w : List ℕ) → state_numbers ≤ length w → state_of (stored s w) ≡ s
unfolding stored
load_stored s w enough = rw (le-leb state_numbers (length w) enough)

pub stored_loaded : (w : List ℕ) → stored (state_of w) w ≡ w
unfolding stored
stored_loaded w =
    ⊎_elim (λ (few : length w < state_numbers). rw (lt-leb state_numbers (length w) few))
    (λ (enough : state_numbers ≤ length w). rw (le-leb state_numbers (length w) enough) (sym (sets-eq (words_of (state_of w)) w 0 (omega arith)) ∙ simp set-get_or))
    (below_or_not (length w) state_numbers)

-- A state that was judged and held is the one that was judged, and it is sound.
pub held_judged : (s s' : State) → judged s ≡ Some s' → (s' ≡ s) × (sound s ≡ true)
unfolding judged
held_judged s s' e = go (either (sound s))
  where
    go : (sound s ≡ true) ⊎ (sound s ≡ false) → (s' ≡ s) × (sound s ≡ true)
    go (inl h) = (cc (rw h at e), h)
    go (inr h) = never (cc (rw h at e))

-- A state that was loaded is the one that the lent numbers hold, and it is sound.
pub held : (w : List ℕ) (s : State) → loaded w ≡ Some s → (s ≡ state_of w) × (sound s ≡ true)
unfolding loaded
held w s e = go (either (leb state_numbers (length w)))
  where
    go : (leb state_numbers (length w) ≡ true) ⊎ (leb state_numbers (length w) ≡ false) → (s ≡ state_of w) × (sound s ≡ true)
    go (inl h) =
        let (same, is_sound) = held_judged (state_of w) s (rw h at e) in
        (same, rw same is_sound)
    go (inr h) = never (cc (rw h at e))

-- Storing what was loaded leaves the lent numbers as they were.
pub kept : (w : List ℕ) (s : State) → loaded w ≡ Some s → stored s w ≡ w
kept w s e = rw (held w s e).0 (stored_loaded w)

-- A sound state that is stored is loaded again, where the lent numbers are enough.
pub loaded-stored : (s : State) (w : List ℕ) → state_numbers ≤ length w → sound s ≡ true → loaded (stored s w) ≡ Some s
unfolding loaded judged stored
loaded-stored s w enough is_sound =
    rw (le-leb state_numbers (length w) enough, le-leb state_numbers (length (words_of s ++ drop state_numbers w)) (omega arith), is_sound)

-- The start of a sound state is a place; with a size it is below it.
pub is_place_lem : (s : State) → sound s ≡ true → is_place s.size s.start ≡ true
unfolding sound
is_place_lem s h = search each depth 13

pub start-below : (s : State) → sound s ≡ true → 1 ≤ s.size → s.start < s.size
start-below s h one = go (either (ltb s.start s.size))
  where
    go : (ltb s.start s.size ≡ true) ⊎ (ltb s.start s.size ≡ false) → s.start < s.size
    go (inl e) = ltb-true s.start s.size e
    go (inr e) = let none : s.start ≡ 0 = eqb-true s.start 0 (rw e at (is_place_lem s h)) in omega arith

-- What is stored over a stored state is all that is stored.
pub stored_again : (s t : State) (w : List ℕ) → stored t (stored s w) ≡ stored t w
unfolding stored
stored_again s t w =
    ⊎_elim (λ (few : length w < state_numbers). rw (lt-leb state_numbers (length w) few, lt-leb state_numbers (length w) few))
    (λ (enough : state_numbers ≤ length w). rw (le-leb state_numbers (length w) enough, le-leb state_numbers (length (words_of s ++ drop state_numbers w)) (omega arith)))
    (below_or_not (length w) state_numbers)
