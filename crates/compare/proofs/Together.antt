-- What the walk along two recordings holds: with what is left of both from its two places on, all that is to be answered.
use Rattle.std.proofs.Common.{◌≡◌, ℕ, suc, ◌+◌, ◌-◌, ◌%◌, ◌^◌, ◌<◌, ◌≤◌, Bool, true, false, cond, ◌&&◌, eqb, ltb, ◌⊎◌, List, [], ◌∷◌, length, sym, refl, ap, ◌∙◌, inl, inr, ⊎_elim, arith, le-ltb, lt-ltb, eqb-true}
use Rattle.bits.proofs.Cases.{never, below_or_not}
use Rattle.recording.specs.declared.Numbers.{Numbers}
use Rattle.recording.specs.Recording.{Reading}
use Rattle.recording.specs.Recording.{operation_at}
use Rattle.recording.specs.Run.{readings}
use Rattle.recording.proofs.Run.{left, all_left}
use Rattle.recording.proofs.Window.{operation_reach}
use Rattle.recording.proofs.Passes.{Unread}
use Rattle.std.proofs.Common.{Option, Some, None}
use Rattle.recording.specs.declared.Damage.{Damage}
use Rattle.compare.specs.declared.Walk.{Walk}
use Rattle.compare.specs.Compare.{operations, first_bad, behind, differing, equal_front, first_differing, ends_first, rest, rest_of, good, unless_bad, parting_of_good, parting_of}
use Rattle.compare.specs.Walk.{begun, stopped_at, met, turned, bad_from, ended}
use Rattle.compare.proofs.Left.{none, next-left, bad_on, bad_here, some}
use Rattle.std.proofs.Common.{Ok, Err}

-- What is known of one recording at the walk's place, after so many operations.
pub record Along (bytes : List ℕ) (count at : ℕ) : Type 0 where
  pub within : at ≤ length bytes
  pub same_bad : bad_from bytes at ≡ first_bad (readings bytes)
  pub many : length (operations (readings bytes)) ≡ count + length (operations (left bytes at))
  pub places : (j k : ℕ) → k ≡ count + j → behind k 0 (readings bytes) ≡ behind j at (left bytes at)

-- What is known of both.
pub record Together (a b : List ℕ) (w : Walk) : Type 0 where
  pub count : ℕ
  pub first : Along a count w.at
  pub second : Along b count w.other
  pub counted : w.equal ≤ w.at
  pub equals : cond (eqb w.differing 0) (w.equal + equal_front (operations (left a w.at)) (operations (left b w.other))) w.equal
      ≡ equal_front (operations (readings a)) (operations (readings b))
  pub differs : cond (eqb w.differing 0) (first_differing (operations (left a w.at)) (operations (left b w.other))) w.differing
      ≡ first_differing (operations (readings a)) (operations (readings b))
  pub stops : w.going ≡ false → Unread a w.at ⊎ Unread b w.other

-- ---- before the first pair

begins_along : (bytes : List ℕ) → Along bytes 0 0
unfolding bad_from
begins_along bytes =
    record {
      within = omega arith;
      same_bad = ap first_bad (all_left bytes);
      many = rw (all_left bytes) (omega arith);
      places = λ j k e. let same : k ≡ j = omega arith in rw (same, all_left bytes);
    }

pub begins : (a b : List ℕ) → Together a b begun
begins a b =
    record {
      count = 0;
      first = begins_along a;
      second = begins_along b;
      counted = omega arith;
      equals = rw (all_left a, all_left b) (omega arith);
      differs = rw (all_left a, all_left b);
      stops = λ h. never (cc);
    }

-- ---- a turn

-- One recording goes on behind an operation.
pub goes_on : (bytes : List ℕ) (count at : ℕ) (x : Numbers) (next : ℕ) → Along bytes count at → operation_at bytes at ≡ Ok (x, next) → Along bytes (suc count) next
unfolding operations behind
goes_on bytes count at x next l e =
    let (further, within) = operation_reach bytes at x next l.within e in
    let there : at < length bytes = omega arith in
    let one = next-left bytes at there x next e in
    record {
      within = within;
      same_bad = sym (bad_on bytes at there x next e) ∙ l.same_bad;
      many = omega (arith, l.many, ap (λ (list : List Reading). length (operations list)) one);
      places = λ j k h. l.places (suc j) k (omega arith) ∙ ap (behind (suc j) at) one;
    }

-- What differs now is nothing where nothing did, and nothing does in the pair.
both_nothing : (d before : ℕ) → eqb (cond (eqb before 0) d before) 0 ≡ eqb before 0 && eqb d 0
both_nothing d before = go (eqb before 0) refl
  where
    go : (t : Bool) → eqb before 0 ≡ t → eqb (cond t d before) 0 ≡ t && eqb d 0
    go true e = refl
    go false e = e

equal_on : (t u : Bool) (equal more front : ℕ) → more ≡ equal + 1
    → cond (t && u) (cond (t && u) more equal + front) (cond (t && u) more equal) ≡ cond t (equal + cond u (suc front) 0) equal
equal_on true true equal more front e = omega arith
equal_on true false equal more front e = omega arith
equal_on false u equal more front e = refl

differs_on : (t u : Bool) (d before rest : ℕ) → cond (t && u) rest (cond t d before) ≡ cond t (cond u rest d) before
differs_on true true d before rest = refl
differs_on true false d before rest = refl
differs_on false u d before rest = refl

at_most : (t : Bool) (equal more at next : ℕ) → more ≡ equal + 1 → equal ≤ at → at < next → cond t more equal ≤ next
at_most true equal more at next e h l = omega arith
at_most false equal more at next e h l = omega arith

module _ (a b : List ℕ) (size : length a < 2 ^ 64) (w : Walk) (l : Together a b w) where
  -- A pair is read.
  pub meets : (x y : Numbers) (next after : ℕ) → operation_at a w.at ≡ Ok (x, next) → operation_at b w.other ≡ Ok (y, after)
      → Together a b (met (differing x y) next after w)
  unfolding met operations equal_front first_differing
  meets x y next after e f =
      let d = differing x y in
      let t = eqb w.differing 0 in
      let r = operation_reach a w.at x next l.first.within e in
      let s = operation_reach b w.other y after l.second.within f in
      let more : (w.equal + 1) % 2 ^ 64 ≡ w.equal + 1 = omega (arith, l.counted, r.0, r.1) in
      let one = next-left a w.at (omega (arith, r.0, r.1)) x next e in
      let two = next-left b w.other (omega (arith, s.0, s.1)) y after f in
      record {
        count = suc l.count;
        first = goes_on a l.count w.at x next l.first e;
        second = goes_on b l.count w.other y after l.second f;
        counted = at_most (t && eqb d 0) w.equal ((w.equal + 1) % 2 ^ 64) w.at next more l.counted (omega (arith, r.0));
        equals =
            rw (both_nothing d w.differing)
            (equal_on t (eqb d 0) w.equal ((w.equal + 1) % 2 ^ 64) (equal_front (operations (left a next)) (operations (left b after))) more
            ∙ (rw (one, two) at l.equals));
        differs =
            rw (both_nothing d w.differing)
            (differs_on t (eqb d 0) d w.differing (first_differing (operations (left a next)) (operations (left b after)))
            ∙ (rw (one, two) at l.differs));
        stops = λ h. never (cc);
      }

  -- A pair cannot be read.
  stays : Unread a w.at ⊎ Unread b w.other → Together a b (stopped_at w)
  stays unread =
      record {
        count = l.count;
        first = l.first;
        second = l.second;
        counted = l.counted;
        equals = l.equals;
        differs = l.differs;
        stops = λ h. unread;
      }

  pub turns : (r s : Reading) → operation_at a w.at ≡ r → operation_at b w.other ≡ s → Together a b (turned r s w)
  turns (Ok (x, next)) (Ok (y, after)) e f = meets x y next after e f
  turns (Ok (x, next)) (Err d) e f = stays (inr (record { damage = d; refused = f }))
  turns (Err d) s e f = stays (inl (record { damage = d; refused = e }))

  -- Either it goes further in the first, or it goes no more.
  pub lessens : (r s : Reading) → operation_at a w.at ≡ r → operation_at b w.other ≡ s → w.going ≡ true
      → (length a - (turned r s w).at) + cond (turned r s w).going 1 0 < (length a - w.at) + cond w.going 1 0
  unfolding met
  lessens (Ok (x, next)) (Ok (y, after)) e f h =
      let (further, within) = operation_reach a w.at x next l.first.within e in rw h (omega arith)
  lessens (Ok (x, next)) (Err d) e f h = rw h (omega arith)
  lessens (Err d) s e f h = rw h (omega arith)

-- ---- where it ended

-- Where nothing can be read and nothing is bad, the recording has ended.
over : (bytes : List ℕ) (at : ℕ) → bad_from bytes at ≡ None → Unread bytes at → length bytes ≤ at
over bytes at none-bad u =
    ⊎_elim (λ (there : at < length bytes). let both : Some u.damage ≡ None = sym (bad_here bytes at there u.damage u.refused) ∙ none-bad in never (cc))
    (λ (h : length bytes ≤ at). h) (below_or_not at (length bytes))

no_front : (list : List Numbers) → equal_front list [] ≡ 0
unfolding equal_front
no_front [] = refl
no_front (x ∷ list) = refl

no_difference : (list : List Numbers) → first_differing list [] ≡ 0
unfolding first_differing
no_difference [] = refl
no_difference (x ∷ list) = refl

nothing_more : (t : Bool) (n front : ℕ) → front ≡ 0 → cond t (n + front) n ≡ n
nothing_more true n front e = omega arith
nothing_more false n front e = refl

nothing_differs : (n front : ℕ) → front ≡ 0 → cond (eqb n 0) front n ≡ n
nothing_differs n front e = go (eqb n 0) refl
  where
    go : (t : Bool) → eqb n 0 ≡ t → cond t front n ≡ n
    go true h = e ∙ sym (eqb-true n 0 h)
    go false h = refl

module _ (a b : List ℕ) (w : Walk) (l : Together a b w) (good-a : bad_from a w.at ≡ None) (good-b : bad_from b w.other ≡ None) (one-over : (length a ≤ w.at) ⊎ (length b ≤ w.other)) where
  abbrev p : List Numbers
  p = operations (left a w.at)

  abbrev q : List Numbers
  q = operations (left b w.other)

  abbrev n : ℕ
  n = length (operations (readings a))

  abbrev m : ℕ
  m = length (operations (readings b))

  front_over : equal_front p q ≡ 0
  unfolding equal_front
  front_over = ⊎_elim (λ (h : length a ≤ w.at). rw (none a w.at h)) (λ (h : length b ≤ w.other). rw (none b w.other h) (no_front p)) one-over

  differing_over : first_differing p q ≡ 0
  unfolding first_differing
  differing_over = ⊎_elim (λ (h : length a ≤ w.at). rw (none a w.at h)) (λ (h : length b ≤ w.other). rw (none b w.other h) (no_difference p)) one-over

  equal_is : w.equal ≡ equal_front (operations (readings a)) (operations (readings b))
  equal_is = sym (nothing_more (eqb w.differing 0) w.equal (equal_front p q) front_over) ∙ l.equals

  differing_is : w.differing ≡ first_differing (operations (readings a)) (operations (readings b))
  differing_is = sym (nothing_differs w.differing (first_differing p q) differing_over) ∙ l.differs

  -- Which one ends first, and the rest of the other.
  abbrev Said : Type 0
  Said = (cond (ltb w.other (length b)) 1 (cond (ltb w.at (length a)) 2 0) ≡ ends_first n m)
      × (cond (ltb w.other (length b)) (rest 2 w.other (length b)) (rest 1 w.at (length a)) ≡ rest_of a b n m)

  rest_is : Said
  unfolding behind
  rest_is = ⊎_elim second_longer (λ (h : length b ≤ w.other). ⊎_elim (first_longer h) (as_many h) (below_or_not w.at (length a))) (below_or_not w.other (length b))
    where
      second_longer : w.other < length b → Said
      second_longer h =
          let a-over : length a ≤ w.at = ⊎_elim (λ (g : length a ≤ w.at). g) (λ (g : length b ≤ w.other). never (omega arith)) one-over in
          let n-is : n ≡ l.count = omega (arith, l.first.many, ap length (none a w.at a-over)) in
          let more : n < m = omega (arith, n-is, l.second.many, some b w.other h good-b) in
          let place = l.second.places 0 n (omega (arith, n-is)) in
          (rw (lt-ltb w.other (length b) h, lt-ltb n m more), rw (lt-ltb w.other (length b) h, lt-ltb n m more, place))

      first_longer : length b ≤ w.other → w.at < length a → Said
      first_longer h g =
          let m-is : m ≡ l.count = omega (arith, l.second.many, ap length (none b w.other h)) in
          let more : m < n = omega (arith, m-is, l.first.many, some a w.at g good-a) in
          let place = l.first.places 0 m (omega (arith, m-is)) in (
            rw (le-ltb w.other (length b) h, lt-ltb w.at (length a) g, le-ltb n m (omega (arith, more)), lt-ltb m n more),
            rw (le-ltb w.other (length b) h, le-ltb n m (omega (arith, more)), place),
          )

      as_many : length b ≤ w.other → length a ≤ w.at → Said
      as_many h g =
          let m-is : m ≡ l.count = omega (arith, l.second.many, ap length (none b w.other h)) in
          let n-is : n ≡ l.count = omega (arith, l.first.many, ap length (none a w.at g)) in
          let place = l.first.places 0 m (omega (arith, m-is)) in (
            rw (le-ltb w.other (length b) h, le-ltb w.at (length a) g, le-ltb n m (omega (arith, m-is, n-is)), le-ltb m n (omega (arith, m-is, n-is))),
            rw (le-ltb w.other (length b) h, le-ltb n m (omega (arith, m-is, n-is)), place),
          )

  good-ended : ended (length a) (length b) w ≡ parting_of_good a b (operations (readings a)) (operations (readings b))
  unfolding ended
  good-ended = λ i. good (equal_is i) (rest_is.0 i) (differing_is i) (rest_is.1 i)

-- What the walk comes to.
pub done : (a b : List ℕ) (w : Walk) → Together a b w → w.going ≡ false
    → unless_bad (bad_from a w.at) (bad_from b w.other) (ended (length a) (length b) w) ≡ parting_of a b
unfolding parting_of
done a b w l stopped = rw (l.first.same_bad, l.second.same_bad) (go (first_bad (readings a)) (first_bad (readings b)) refl refl)
  where
    go : (x y : Option Damage) → first_bad (readings a) ≡ x → first_bad (readings b) ≡ y
        → unless_bad x y (ended (length a) (length b) w) ≡ unless_bad x y (parting_of_good a b (operations (readings a)) (operations (readings b)))
    go (Some d) y e f = refl
    go None (Some d) e f = refl
    go None None e f =
        let good-a = l.first.same_bad ∙ e in
        let good-b = l.second.same_bad ∙ f in
        good-ended a b w l good-a good-b
        (⊎_elim (λ (u : Unread a w.at). inl (over a w.at good-a u)) (λ (u : Unread b w.other). inr (over b w.other good-b u)) (l.stops stopped))
