-- The operations that are passed at the front of a run, and those that are left behind them, are all that is answered.
use Prim.Native.Nat.{ℕ, suc, ◌+◌, ◌≤◌, ◌<◌}
use native.Mathlib.Omega.{arith}
use mathlib.Core.Path.{◌≡◌, sym, ap, subst, ◌∙◌}
use borrow.Author.Tests.{le-leb, lt-leb}
use lib.Dec.{leb}
use mathlib.Core.Logic.{⊎_elim}
use mathlib.Core.List.{List}
use lib.ListN.{length}
use Rattle.bits.proofs.Cases.{below_or_not}
use Rattle.std.proofs.Common.{Ok}
use Rattle.recording.specs.declared.Passage.{Passage}
use Rattle.recording.specs.declared.Numbers.{Numbers}
use Rattle.recording.specs.Recording.{operation_at}
use Rattle.recording.specs.Run.{readings, passed_from}
use Rattle.recording.proofs.Passes.{kept, ends}
use Rattle.recording.proofs.Run.{left, all_left, none_left, one_left}
use Rattle.recording.proofs.Window.{operation_reach}

module _ (bytes : List ℕ) where
  Counted : ℕ → ℕ → Type 0
  Counted count at = (at ≤ length bytes) × (count + length (left bytes at) ≡ length (readings bytes))

  one_more : (count at : ℕ) (x : Numbers) (next : ℕ) → Counted count at → operation_at bytes at ≡ Ok (x, next) → Counted (suc count) next
  unfolding Counted
  one_more count at x next h e =
      let (further, within) = operation_reach bytes at x next h.0 e in
      let one = rw e at (one_left bytes at (omega arith)) in
      (within, omega (arith, h.1, ap length one))

  counted : (most : ℕ) → let p = passed_from most bytes 0 in (p.at ≤ length bytes) × (p.count + length (left bytes p.at) ≡ length (readings bytes))
  unfolding Counted
  counted most =
      let k = kept bytes Counted one_more most 0 0 (omega arith, omega (arith, ap length (all_left bytes))) in (k.0, omega (arith, k.1))

  -- Fewer than may be are passed where none is left, or only one that cannot be read.
  few : (most : ℕ) → (passed_from most bytes 0).count < most → length (readings bytes) ≤ most
  few most h =
      let p = passed_from most bytes 0 in
      let all = counted most in
      let u = (ends bytes most 0).stops h in
      ⊎_elim
      (λ (l : p.at < length bytes).
      let one = rw u.refused at (one_left bytes p.at l) in
      omega (arith, h, all.1, ap length one, ap length (none_left bytes (length bytes) (omega arith))))
      (λ (l : length bytes ≤ p.at). omega (arith, h, all.1, ap length (none_left bytes p.at l)))
      (below_or_not p.at (length bytes))

  -- As many are passed, and none is left.
  all_passed : (most : ℕ) → length bytes ≤ (passed_from most bytes 0).at → length (readings bytes) ≤ most
  all_passed most l =
      let p = passed_from most bytes 0 in omega (arith, (counted most).1, (ends bytes most 0).at_most, ap length (none_left bytes p.at l))

  -- As many, and more are left.
  many : (most : ℕ) → most ≤ (passed_from most bytes 0).count → (passed_from most bytes 0).at < length bytes → most < length (readings bytes)
  many most h l =
      let p = passed_from most bytes 0 in omega (arith, h, (counted most).1, ap length (one_left bytes p.at l))

  -- What two tests of those that were passed come to, where as many were asked for as may be.
  module _ {asked : ℕ} (most : ℕ) (p : Passage) (e : p ≡ passed_from asked bytes 0) (same : asked ≡ most) where
    passed : p ≡ passed_from most bytes 0
    passed = rw (← same) e

    pub fewer : p.count < most → length (readings bytes) ≤ most
    fewer h = few most (subst (λ (q : Passage). q.count < most) passed h)

    pub as_many : most ≤ p.count → leb (length bytes) p.at ≡ leb (length (readings bytes)) most
    as_many h =
        ⊎_elim
        (λ (l : p.at < length bytes).
        lt-leb (length bytes) p.at l
        ∙ sym (lt-leb (length (readings bytes)) most (many most (subst (λ (q : Passage). most ≤ q.count) passed h) (subst (λ (q : Passage). q.at < length bytes) passed l))))
        (λ (l : length bytes ≤ p.at).
        le-leb (length bytes) p.at l ∙ sym (le-leb (length (readings bytes)) most (all_passed most (subst (λ (q : Passage). length bytes ≤ q.at) passed l))))
        (below_or_not p.at (length bytes))
