-- Operations that are passed: their place is not further in front, and a recording's bad numbers are those behind them; and both
-- recordings passed alike, behind an unequal pair.
use Rattle.std.proofs.Common.{◌≡◌, ℕ, ◌+◌, ◌-◌, ◌<◌, ◌≤◌, Bool, false, cond, ◌≢◌, ◌⊎◌, List, length, sym, refl, ◌∙◌, subst, inl, inr, ⊎_elim, arith, le-ltb, lt-ltb, ne_eqb, le-leb, leb-false}
use borrow.Author.Tests.{lt-leb}
use Rattle.bits.proofs.Cases.{below_or_not}
use Rattle.number.proofs.Laws.{Bytes}
use Rattle.recording.specs.declared.Passage.{Passage}
use Rattle.recording.specs.Recording.{operation_at}
use Rattle.recording.specs.Run.{passed_from}
use Rattle.recording.proofs.Laws.{what_was_read}
use Rattle.recording.proofs.Passes.{kept, Unread, ends, as_many}
use Rattle.compare.specs.declared.Walk.{Walk}
use Rattle.compare.specs.Walk.{moved_to, passed_both, bad_of_reading, bad_from}
use Rattle.compare.proofs.Left.{bad_on, bad_here}
use Rattle.compare.proofs.Together.{Along, Together, goes_on}

-- ---- one recording

module _ (bytes : List ℕ) (each : Bytes bytes) where
  -- Each operation has a byte at least.
  pub further : (most at : ℕ) → at + (passed_from most bytes at).count ≤ (passed_from most bytes at).at
  further most at =
      let on = kept bytes (λ count place. at + count ≤ place) (λ count place x next h e. omega (arith, h, (what_was_read bytes place x next each e).further)) most 0 at (omega arith) in
      omega (arith, on)

  pub not_back : (most at : ℕ) → at ≤ (passed_from most bytes at).at
  not_back most at = omega (arith, further most at)

  pub same_bad : (most at : ℕ) → bad_from bytes (passed_from most bytes at).at ≡ bad_from bytes at
  same_bad most at =
      kept bytes (λ count place. bad_from bytes place ≡ bad_from bytes at)
      (λ count place x next h e. let r = what_was_read bytes place x next each e in sym (bad_on bytes place (omega (arith, r.further, r.within)) x next e) ∙ h)
      most 0 at refl

  -- Where all were passed that can be, there is the first bad number, or the end.
  pub bad_behind : (at : ℕ) → (let p = passed_from (length bytes) bytes at in p.at < length bytes → bad_of_reading (operation_at bytes p.at) ≡ bad_from bytes at)
  bad_behind at l =
      let p = passed_from (length bytes) bytes at in
      let u = (ends bytes (length bytes) at).stops (omega (arith, further (length bytes) at, l)) in
      rw u.refused (sym (bad_here bytes p.at l u.damage u.refused)) ∙ same_bad (length bytes) at

-- ---- both

module _ (a b : List ℕ) (w : Walk) (l : Together a b w) (unequal : w.differing ≢ 0) where
  -- So many operations further in both.
  both_further : (n p q : ℕ) (going : Bool) → Along a (l.count + n) p → Along b (l.count + n) q → w.at ≤ p
      → (going ≡ false → Unread a p ⊎ Unread b q)
      → Together a b (moved_to p q going w)
  both_further n p q going first second on stops =
      record {
        count = l.count + n;
        first = first;
        second = second;
        counted = omega (arith, l.counted, on);
        equals = rw (ne_eqb w.differing 0 unequal) (rw (ne_eqb w.differing 0 unequal) at l.equals);
        differs = rw (ne_eqb w.differing 0 unequal) (rw (ne_eqb w.differing 0 unequal) at l.differs);
        stops = stops;
      }

  module _ (bytes : Bytes a) (most : ℕ) (some : 0 < most) where
    abbrev first : Passage
    first = passed_from most a w.at

    abbrev second : Passage
    second = passed_from first.count b w.other

    along_first : (k : ℕ) → Along a (l.count + (passed_from k a w.at).count) (passed_from k a w.at).at
    along_first k = kept a (Along a) (goes_on a) k l.count w.at l.first

    along_second : Along b (l.count + second.count) second.at
    along_second = kept b (Along b) (goes_on b) first.count l.count w.other l.second

    -- The second has fewer.
    second_stopped : second.count < first.count → Together a b (moved_to (passed_from second.count a w.at).at second.at false w)
    second_stopped h =
        let same = as_many a second.count most w.at (omega (arith, h)) in
        both_further second.count (passed_from second.count a w.at).at second.at false
        (subst (λ (n : ℕ). Along a (l.count + n) (passed_from second.count a w.at).at) same (along_first second.count)) along_second
        (not_back a bytes second.count w.at)
        (λ _. inr ((ends b first.count w.other).stops h))

    -- It has as many.
    both_passed : first.count ≤ second.count → (going : Bool) → (going ≡ false → first.count < most) → Together a b (moved_to first.at second.at going w)
    both_passed h going stopped =
        let same : second.count ≡ first.count = omega (arith, h, (ends b first.count w.other).at_most) in
        both_further first.count first.at second.at going (along_first most)
        (subst (λ (n : ℕ). Along b (l.count + n) second.at) same along_second)
        (not_back a bytes most w.at)
        (λ e. inl ((ends a most w.at).stops (stopped e)))

    pub passes : Together a b (passed_both most a b w)
    unfolding passed_both
    passes =
        ⊎_elim (λ (h : second.count < first.count). rw (lt-ltb second.count first.count h) (second_stopped h))
        (λ (h : first.count ≤ second.count).
        rw (le-ltb second.count first.count h) (both_passed h _ (λ e. leb-false most first.count e)))
        (below_or_not second.count first.count)

    -- Either it goes further in the first, or it goes no more.
    pub passes_less : (length a - (passed_both most a b w).at) + cond (passed_both most a b w).going 1 0 < (length a - w.at) + 1
    unfolding passed_both
    passes_less =
        let back = not_back a bytes in
        ⊎_elim (λ (h : second.count < first.count). rw (lt-ltb second.count first.count h) (omega (arith, back second.count w.at)))
        (λ (h : first.count ≤ second.count).
        rw (le-ltb second.count first.count h)
        (⊎_elim (λ (g : first.count < most). rw (lt-leb most first.count g) (omega (arith, back most w.at)))
        (λ (g : most ≤ first.count). rw (le-leb most first.count g) (omega (arith, further a bytes most w.at, g, some, (along_first most).within)))
        (below_or_not first.count most)))
        (below_or_not second.count first.count)
