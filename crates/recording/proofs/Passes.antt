-- Operations that are passed: one by one; and what each of them keeps, all of them keep.
use Prim.Native.Nat.{ℕ, zero, suc, ◌+◌, ◌≤◌, ◌<◌}
use native.Mathlib.Omega.{arith}
use mathlib.Core.Path.{◌≡◌, refl, sym, ap, subst, ◌∙◌}
use mathlib.Core.List.{List}
use Rattle.recording.specs.declared.Numbers.{Numbers}
use Rattle.recording.specs.declared.Passage.{Passage}
use Rattle.recording.specs.Recording.{Reading}
use Rattle.recording.specs.Recording.{operation_at}
use Rattle.recording.specs.Run.{end_of, passed_by, passed_from}
use Rattle.std.proofs.Common.{rules, Some, None, Ok, Err}
use Rattle.recording.specs.declared.Damage.{Damage}

-- After so many operations that were passed before.
abbrev pub ahead : ℕ → Passage → Passage
ahead n p = record { count = n + p.count; at = p.at }

module _ (bytes : List ℕ) (at : ℕ) where
  -- By where the operation ends.
  read_on : (most next : ℕ) (r : Reading) → Some next ≡ end_of r
      → passed_by (passed_from most bytes) at r ≡ record { count = suc (passed_from most bytes next).count; at = (passed_from most bytes next).at }
  read_on most next (Ok (x, there)) e = ap (λ (m : ℕ). record { count = suc (passed_from most bytes m).count; at = (passed_from most bytes m).at }) (sym (search rules))
  read_on most next (Err d) e = absurd (search rules)

  read_none : (most : ℕ) (r : Reading) → None ≡ end_of r → passed_by (passed_from most bytes) at r ≡ record { count = 0; at = at }
  read_none most (Ok (x, next)) e = absurd (search rules)
  read_none most (Err d) e = refl

  pub one_passed : (most count next : ℕ) → Some next ≡ end_of (operation_at bytes at)
      → ahead (count + 1) (passed_from most bytes next) ≡ ahead count (passed_from (suc most) bytes at)
  unfolding passed_from
  one_passed most count next e =
      let p = passed_from most bytes next in
      let sum : count + 1 + p.count ≡ count + suc p.count = omega arith in
      let here : ahead (count + 1) p ≡ ahead count (record { count = suc p.count; at = p.at }) = (λ i. record { count = sum i; at = p.at }) in
      here ∙ ap (ahead count) (sym (read_on most next (operation_at bytes at) e))

  pub none_passed : (most : ℕ) → None ≡ end_of (operation_at bytes at) → passed_from (suc most) bytes at ≡ record { count = 0; at = at }
  unfolding passed_from
  none_passed most e = read_none most (operation_at bytes at) e

-- What one operation keeps, by how many were passed and the place.
module _ (bytes : List ℕ) (P : ℕ → ℕ → Type 0) (step : (count at : ℕ) (x : Numbers) (next : ℕ) → P count at → operation_at bytes at ≡ Ok (x, next) → P (suc count) next) where
  pub kept : (most count at : ℕ) → P count at → P (count + (passed_from most bytes at).count) (passed_from most bytes at).at
  unfolding passed_from
  kept zero count at h = let none : count ≡ count + 0 = omega arith in subst (λ (n : ℕ). P n at) none h
  kept (suc most) count at h = go (operation_at bytes at) refl (kept most)
    where
      go : (r : Reading) → operation_at bytes at ≡ r
          → ((c place : ℕ) → P c place → P (c + (passed_from most bytes place).count) (passed_from most bytes place).at)
          → P (count + (passed_by (passed_from most bytes) at r).count) (passed_by (passed_from most bytes) at r).at
      go (Ok (x, next)) e more =
          let p = passed_from most bytes next in
          let sum : suc count + p.count ≡ count + suc p.count = omega arith in
          subst (λ (n : ℕ). P n p.at) sum (more (suc count) next (step count at x next h e))
      go (Err d) e more = let none : count ≡ count + 0 = omega arith in subst (λ (n : ℕ). P n at) none h

-- An operation cannot be read at a place.
pub record Unread (bytes : List ℕ) (at : ℕ) : Type 0 where
  pub damage : Damage
  pub refused : operation_at bytes at ≡ Err damage

-- At most so many are passed, and fewer only before what cannot be read.
pub record Ends (bytes : List ℕ) (most : ℕ) (p : Passage) : Type 0 where
  pub at_most : p.count ≤ most
  pub stops : p.count < most → Unread bytes p.at

pub ends : (bytes : List ℕ) (most at : ℕ) → Ends bytes most (passed_from most bytes at)
unfolding passed_from
ends bytes zero at = record { at_most = omega arith; stops = λ h. absurd (omega arith) }
ends bytes (suc most) at = go (operation_at bytes at) refl (ends bytes most)
  where
    go : (r : Reading) → operation_at bytes at ≡ r → ((place : ℕ) → Ends bytes most (passed_from most bytes place)) → Ends bytes (suc most) (passed_by (passed_from most bytes) at r)
    go (Ok (x, next)) e more =
        let m = more next in record { at_most = omega (arith, m.at_most); stops = λ h. m.stops (omega (arith, h)) }
    go (Err d) e more =
        record { at_most = omega arith; stops = λ h. record { damage = d; refused = e } }

-- As many as were passed can be passed.
pub as_many : (bytes : List ℕ) (fewer most at : ℕ) → fewer ≤ (passed_from most bytes at).count → (passed_from fewer bytes at).count ≡ fewer
unfolding passed_from
as_many bytes zero most at h = refl
as_many bytes (suc fewer) zero at h = absurd (omega arith)
as_many bytes (suc fewer) (suc most) at h = go (operation_at bytes at) refl (as_many bytes fewer most) h
  where
    go : (r : Reading) → operation_at bytes at ≡ r
        → ((place : ℕ) → fewer ≤ (passed_from most bytes place).count → (passed_from fewer bytes place).count ≡ fewer)
        → suc fewer ≤ (passed_by (passed_from most bytes) at r).count
        → (passed_by (passed_from fewer bytes) at r).count ≡ suc fewer
    go (Ok (x, next)) e more g = ap suc (more next (omega (arith, g)))
    go (Err d) e more g = absurd (omega (arith, g))
