-- The same bytes are the same operations, since numbers have one form only.
use Rattle.std.proofs.Common.{◌≡◌, ℕ, zero, suc, ◌+◌, ◌-◌, ◌%◌, ◌^◌, ◌<◌, ◌≤◌, true, List, ◌++◌, length, get_or, take, drop, sym, refl, ap, ◌∙◌, subst, arith, length-drop, take-append-drop, get_or-drop, take-suc, take_at}
use Rattle.number.proofs.Laws.{Bytes}
use Rattle.recording.specs.declared.Numbers.{Numbers}
use Rattle.recording.specs.declared.Passage.{Passage}
use Rattle.recording.specs.Recording.{Reading}
use Rattle.recording.specs.Recording.{operation_at, operation_bytes}
use Rattle.recording.specs.Run.{passed_by, passed_from}
use Rattle.recording.proofs.Laws.{what_was_read, read_written_operation}
use Rattle.compare.specs.declared.Walk.{Walk}
use Rattle.compare.specs.Walk.{met, over_equal, SameBytes}
use Rattle.compare.proofs.Front.{nothing_differs}
use Rattle.compare.proofs.Together.{Together, meets}
use Rattle.compare.proofs.Passing.{not_back}
use Rattle.std.proofs.Common.{Ok, Err}

-- ---- bytes

-- One byte more is the same.
one_more : (a b : List ℕ) (at other i : ℕ) → at + i < length a → other + i < length b → take i (drop at a) ≡ take i (drop other b)
    → get_or a (at + i) 0 ≡ get_or b (other + i) 0
    → take (suc i) (drop at a) ≡ take (suc i) (drop other b)
one_more a b at other i h g same e =
    rw (take-suc (drop at a) i 0 (omega (arith, length-drop at a)), take-suc (drop other b) i 0 (omega (arith, length-drop other b)), get_or-drop at a i 0, get_or-drop other b i 0, same, e)

-- The same, but that there may be none of them.
record Same (a : List ℕ) (at next : ℕ) (b : List ℕ) (other : ℕ) : Type 0 where
  here : next ≤ length a
  there : other + (next - at) ≤ length b
  same : (i : ℕ) → at + i < next → get_or a (at + i) 0 ≡ get_or b (other + i) 0

module _ {a b : List ℕ} {at place other : ℕ} (s : Same a at place b other) where
  taken : (k : ℕ) → at + k ≤ place → take k (drop at a) ≡ take k (drop other b)
  taken zero h = refl
  taken (suc k) h =
      one_more a b at other k (omega (arith, h, s.here)) (omega (arith, h, s.there)) (taken k (omega (arith, h))) (s.same k (omega (arith, h)))

  -- What is read of the one is read of the other.
  read_same : (x : Numbers) (next : ℕ) → Bytes a → operation_at a at ≡ Ok (x, next) → next ≤ place
      → operation_at b other ≡ Ok (x, other + (next - at))
  read_same x next bytes e h =
      let r = what_was_read a at x next bytes e in
      let rest = drop (next - at) (drop other b) in
      let size : length (operation_bytes x) ≡ next - at = omega (arith, r.place) in
      let front : take (next - at) (drop at a) ≡ operation_bytes x
      = ap (take (next - at)) r.bytes ∙ take_at (operation_bytes x) (drop next a) (next - at) size in
      let same = taken (next - at) (omega (arith, r.further, h)) in
      let from : drop other b ≡ operation_bytes x ++ rest
      = sym (take-append-drop (next - at) (drop other b)) ∙ ap (λ (l : List ℕ). l ++ rest) (sym same ∙ front) in
      read_written_operation b other x rest r.again from ∙ rw (← r.own, size)

  -- Those behind it are the same too.
  behind_same : (next : ℕ) → at ≤ next → next ≤ place → Same a next place b (other + (next - at))
  behind_same next h g =
      record {
        here = s.here;
        there = omega (arith, s.there, h, g);
        same = λ i l.
            let one : at + (next - at + i) ≡ next + i = omega (arith, h) in
            let two : other + (next - at + i) ≡ other + (next - at) + i = omega arith in
            sym (ap (λ (k : ℕ). get_or a k 0) one) ∙ s.same (next - at + i) (omega (arith, l, h)) ∙ ap (λ (k : ℕ). get_or b k 0) two;
      }

-- ---- many pairs at once

-- At two places, behind so many equal pairs, and none that is not.
abbrev equal_at : ℕ → ℕ → ℕ → Walk
equal_at at other equal = record { at = at; other = other; equal = equal; differing = 0; going = true }

module _ (a b : List ℕ) (bytes : Bytes a) (size : length a < 2 ^ 64) where
  one_pair : (at other equal : ℕ) (x : Numbers) (next after : ℕ) → Together a b (equal_at at other equal) → operation_at a at ≡ Ok (x, next)
      → operation_at b other ≡ Ok (x, after) → Together a b (equal_at next after (equal + 1))
  unfolding met
  one_pair at other equal x next after l e f =
      let m = rw (nothing_differs x) at (meets a b size (equal_at at other equal) l x x next after e f) in
      let r = what_was_read a at x next bytes e in
      let plain : (equal + 1) % 2 ^ 64 ≡ equal + 1 = omega (arith, l.counted, r.further, r.within) in
      subst (λ (n : ℕ). Together a b (equal_at next after n)) plain m

  none_over : (at other equal : ℕ) → Together a b (equal_at at other equal) → Together a b (equal_at at (other + (at - at)) (equal + 0))
  none_over at other equal l =
      let one : other ≡ other + (at - at) = omega arith in
      let two : equal ≡ equal + 0 = omega arith in
      subst (λ (n : ℕ). Together a b (equal_at at (other + (at - at)) n)) two (subst (λ (n : ℕ). Together a b (equal_at at n equal)) one l)

  -- Operations whose bytes stand in both are as many equal pairs.
  abbrev Over : Passage → ℕ → ℕ → ℕ → Type 0
  Over p at other equal = Same a at p.at b other → Together a b (equal_at p.at (other + (p.at - at)) (equal + p.count))

  over_pairs : (most at other equal : ℕ) → Together a b (equal_at at other equal) → Over (passed_from most a at) at other equal
  unfolding passed_from
  over_pairs zero at other equal l = λ s. none_over at other equal l
  over_pairs (suc most) at other equal l = go (operation_at a at) refl (over_pairs most)
    where
      go : (r : Reading) → operation_at a at ≡ r → ((at other equal : ℕ) → Together a b (equal_at at other equal) → Over (passed_from most a at) at other equal)
          → Over (passed_by (passed_from most a) at r) at other equal
      go (Ok (x, next)) e more s =
          let r = what_was_read a at x next bytes e in
          let p = passed_from most a next in
          let on : next ≤ p.at = not_back a bytes most next in
          let pair = one_pair at other equal x next (other + (next - at)) l e (read_same s x next bytes e on) in
          let m = more next (other + (next - at)) (equal + 1) pair (behind_same s next (omega (arith, r.further)) on) in
          let one : other + (next - at) + (p.at - next) ≡ other + (p.at - at) = omega (arith, r.further, on) in
          let two : equal + 1 + p.count ≡ equal + suc p.count = omega arith in
          subst (λ (n : ℕ). Together a b (equal_at p.at (other + (p.at - at)) n)) two
          (subst (λ (n : ℕ). Together a b (equal_at p.at n (equal + 1 + p.count))) one m)
      go (Err d) e more s = none_over at other equal l

  -- The same, of a walk that met no unequal pair.
  pub leaps : (w : Walk) → Together a b w → w.differing ≡ 0 → w.going ≡ true → (most : ℕ) (p : Passage) → p ≡ passed_from most a w.at
      → SameBytes a w.at p.at b w.other
      → Together a b (over_equal p.at (w.other + (p.at - w.at)) p.count w)
  leaps w l none going most p e s =
      let begun : Together a b (equal_at w.at w.other w.equal)
      = subst (Together a b) (λ i. record { at = w.at; other = w.other; equal = w.equal; differing = none i; going = going i }) l in
      let t : Together a b (equal_at p.at (w.other + (p.at - w.at)) (w.equal + p.count))
      = subst (λ (q : Passage). Over q w.at w.other w.equal) (sym e) (over_pairs most w.at w.other w.equal begun) (record { here = s.here; there = s.there; same = s.same }) in
      let plain : w.equal + p.count ≡ (w.equal + p.count) % 2 ^ 64 = omega (arith, t.counted, t.first.within) in
      subst (Together a b)
      (λ i. record { at = p.at; other = w.other + (p.at - w.at); equal = plain i; differing = sym none i; going = true }) t
