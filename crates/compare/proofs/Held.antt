-- What a recording holds, and its first bad number: it has one, or it holds operations (`Holds`), and not both.
use Rattle.std.proofs.Common.{◌≡◌, ℕ, zero, suc, ◌+◌, ◌<◌, ◌≤◌, List, ◌∷◌, length, drop, refl, ap, ⊎_elim, arith}
use Rattle.bits.proofs.Cases.{below_or_not}
use Rattle.recording.specs.declared.Numbers.{Numbers}
use Rattle.recording.specs.Recording.{Reading}
use Rattle.recording.specs.Recording.{operation_at}
use Rattle.recording.specs.Operations.{Holds, ends, reads}
use Rattle.recording.specs.Run.{readings}
use Rattle.recording.proofs.Run.{left, all_left, none_left, one_left}
use Rattle.recording.proofs.Window.{operation_reach}
use Rattle.std.proofs.Common.{Option, Some, None}
use Rattle.recording.specs.declared.Damage.{Damage}
use Rattle.compare.specs.Compare.{operations, first_bad, behind}
use Rattle.compare.specs.Walk.{bad_from}
use Rattle.compare.proofs.Left.{no_bad, next-left, bad_on, bad_here}
use Rattle.std.proofs.Common.{Ok, Err}

module _ (bytes : List ℕ) where
  unlike_end : {at : ℕ} {x : Numbers} {next : ℕ} → at ≤ length bytes → operation_at bytes at ≡ Ok (x, next) → at < length bytes
  unlike_end {at} {x} {next} h e = let (further, within) = operation_reach bytes at x next h e in omega arith

  -- A recording that holds operations has no bad number, and they are its operations.
  held_from : {at : ℕ} {list : List Numbers} → at ≤ length bytes → Holds bytes at list → (operations (left bytes at) ≡ list) × (first_bad (left bytes at) ≡ None)
  unfolding operations first_bad
  held_from {at} h (ends past) = rw (none_left bytes at past) (refl, refl)
  held_from {at} h (reads {next = next} {x = x} e more) =
      let (further, within) = operation_reach bytes at x next h e in
      let (same, none) = held_from within more in
      rw (one_left bytes at (unlike_end h e), e) (ap (λ (list : List Numbers). x ∷ list) same, none)

  pub held : {list : List Numbers} → Holds bytes 0 list → (operations (readings bytes) ≡ list) × (first_bad (readings bytes) ≡ None)
  held h = rw (← all_left bytes) (held_from (omega arith) h)

  -- The place behind so many operations is where the others are held.
  behind_from : {at : ℕ} {list : List Numbers} (k : ℕ) → at ≤ length bytes → Holds bytes at list → k ≤ length list → Holds bytes (behind k at (left bytes at)) (drop k list)
  unfolding behind
  behind_from zero h holds l = holds
  behind_from (suc k) h (ends past) l = absurd (omega arith)
  behind_from {at} (suc k) h (reads {next = next} {x = x} e more) l =
      let (further, within) = operation_reach bytes at x next h e in rw (one_left bytes at (unlike_end h e), e) (behind_from k within more (omega arith))

  pub holds_behind : {list : List Numbers} (k : ℕ) → Holds bytes 0 list → k ≤ length list → Holds bytes (behind k 0 (readings bytes)) (drop k list)
  holds_behind k h l = rw (← all_left bytes) (behind_from k (omega arith) h l)

  -- Behind all of them it ends.
  behind_all_from : {at : ℕ} {list : List Numbers} → at ≤ length bytes → Holds bytes at list → behind (length list) at (left bytes at) ≡ length bytes
  unfolding behind
  behind_all_from {at} h (ends past) = omega arith
  behind_all_from {at} h (reads {next = next} {x = x} e more) =
      let (further, within) = operation_reach bytes at x next h e in rw (one_left bytes at (unlike_end h e), e) (behind_all_from within more)

  pub behind_all : {list : List Numbers} → Holds bytes 0 list → behind (length list) 0 (readings bytes) ≡ length bytes
  behind_all h = rw (← all_left bytes) (behind_all_from (omega arith) h)

  -- What is known of a recording from a place on, by its first bad number: without one it holds its operations, and else that
  -- number is found where the place behind them cannot be read.
  abbrev Known : Option Damage → ℕ → Type 0
  Known None at = Holds bytes at (operations (left bytes at))
  Known (Some d) at = operation_at bytes (behind (length (operations (left bytes at))) at (left bytes at)) ≡ Err d

  module _ {at : ℕ} (there : at < length bytes) where
    known_on : (bad : Option Damage) {x : Numbers} {next : ℕ} → operation_at bytes at ≡ Ok (x, next) → Known bad next → Known bad at
    unfolding operations behind
    known_on None {x} {next} e h = rw (next-left bytes at there x next e) (reads e h)
    known_on (Some d) {x} {next} e h = rw (next-left bytes at there x next e) h

    known_here : {d : Damage} → operation_at bytes at ≡ Err d → Known (Some d) at
    unfolding operations behind
    known_here e = rw (one_left bytes at there, e) e

  known_from : (k at : ℕ) → length bytes ≤ at + k → Known (bad_from bytes at) at
  unfolding operations
  known_from zero at h = let past : length bytes ≤ at = omega arith in rw (no_bad bytes at past, none_left bytes at past) (ends past)
  known_from (suc k) at h =
      ⊎_elim (λ (there : at < length bytes). go there (known_from k) (operation_at bytes at) refl)
      (λ (past : length bytes ≤ at). rw (no_bad bytes at past, none_left bytes at past) (ends past))
      (below_or_not at (length bytes))
    where
      go : at < length bytes → ((next : ℕ) → length bytes ≤ next + k → Known (bad_from bytes next) next) → (r : Reading)
          → operation_at bytes at ≡ r
          → Known (bad_from bytes at) at
      go there more (Ok (x, next)) e =
          let (further, within) = operation_reach bytes at x next (omega arith) e in
          rw (bad_on bytes at there x next e) (known_on there (bad_from bytes next) e (more next (omega arith)))
      go there more (Err d) e = rw (bad_here bytes at there d e) (known_here there e)

  known : Known (first_bad (readings bytes)) 0
  unfolding bad_from
  known = rw (← all_left bytes) (known_from (length bytes) 0 (omega arith))

  -- Without a bad number a recording holds its operations.
  pub then_held : first_bad (readings bytes) ≡ None → Holds bytes 0 (operations (readings bytes))
  then_held e = rw (← all_left bytes) (rw e at known)

  -- A bad number is the first: all before it are operations, and where they end it is what cannot be read.
  pub bad_behind : (d : Damage) → first_bad (readings bytes) ≡ Some d
      → operation_at bytes (behind (length (operations (readings bytes))) 0 (readings bytes)) ≡ Err d
  bad_behind d e = rw (← all_left bytes) (rw e at known)
