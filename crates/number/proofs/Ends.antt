-- Where a number ends, without what it is: the reader's invariant, whatever the groups passed come to.
use mathlib.Core.Path.{◌≡◌, ap, subst}
use Prim.Native.Nat.{ℕ, ◌+◌, ◌≤◌, ◌<◌}
use native.Mathlib.Omega.{arith}
use lib.ListN.{length, drop, get_or}
use mathlib.Core.List.{List}
use Rattle.std.proofs.Common.{Some, None}
use Rattle.number.specs.Number.{Found, number_at, end_of_number}
use Rattle.number.proofs.Laws.{last_read, more_read}
use Rattle.number.proofs.Groups.{Passed, passed_first, from_byte, zeroed, valued, turned, tenth_one, tenth_other}

-- The groups passed come to some value, and the next one counts by some place.
pub record Reached (whole : Found) (s : List ℕ) (tenth i : ℕ) : Type 0 where
  pub value : ℕ
  pub place : ℕ
  pub passed : Passed whole s tenth value place i

pub moved_to : {w : Found} {s : List ℕ} {t i j : ℕ} → Reached w s t i → i ≡ j → Reached w s t j
moved_to {w} {s} {t} h e = subst (Reached w s t) e h

-- A first byte that ends the number.
pub first_ends : (s : List ℕ) (at : ℕ) → at < length s → get_or s at 0 < 128 → Some (at + 1) ≡ end_of_number (number_at s at)
unfolding number_at
first_ends s at l h = rw (from_byte s at l, last_read 9 (get_or s at 0) (drop (at + 1) s) at h)

-- Behind one that says that more follow.
pub reached_first : (s : List ℕ) (at : ℕ) → at < length s → 128 ≤ get_or s at 0 → get_or s at 0 < 256 → Reached (number_at s at) s (at + 9) (at + 1)
unfolding number_at
reached_first s at l g h =
    let b = get_or s at 0 in
    let far : at + 9 ≡ at + 1 + 8 = omega arith in
    rw (from_byte s at l, more_read 9 b (drop (at + 1) s) at g, far) (record { value = _; place = _; passed = passed_first s (at + 1) b g h })

module _ {w : Found} {s : List ℕ} {t i : ℕ} (h : Reached w s t i) where
  pub none_zero : i < length s → get_or s i 0 ≡ 0 → None ≡ end_of_number w
  none_zero e z = ap end_of_number (zeroed h.passed e z)

  pub ends_here : i < t → i < length s → 0 < get_or s i 0 → get_or s i 0 < 128 → Some (i + 1) ≡ end_of_number w
  ends_here l e z g = ap end_of_number (valued h.passed l e z g)

  pub goes_on : i < t → i < length s → 128 ≤ get_or s i 0 → get_or s i 0 < 256 → Reached w s t (i + 1)
  goes_on l e g b = record { value = _; place = _; passed = turned h.passed l e g b }

  pub ends_tenth : t ≤ i → i < length s → get_or s i 0 ≡ 1 → Some (i + 1) ≡ end_of_number w
  ends_tenth g e z = ap end_of_number (tenth_one h.passed g e z)

  pub none_tenth : t ≤ i → i < length s → (get_or s i 0 ≡ 1 → ⊥) → None ≡ end_of_number w
  none_tenth g e f = ap end_of_number (tenth_other h.passed g e f)
