-- What the loop of `sum` holds: sums so far, which with those of what is left of the run are those of all of it. Assumes nothing.
use Prim.Native.Nat.{ℕ, suc, ◌+◌, ◌≤◌, ◌<◌}
use native.Mathlib.Omega.{arith}
use mathlib.Core.Path.{◌≡◌, refl, sym, ap, ◌∙◌}
use mathlib.Core.Bool.{Bool, true, false, cond, ◌&&◌, not, and-true, and_assoc}
use mathlib.Core.Logic.{⊎_elim, ◌≢◌}
use mathlib.Core.List.{List, []}
use lib.Dec.{eqb, ltb}
use lib.ListN.{length, drop, get_or, drop_of_length-le}
use lib.Seq.{drop-cons}
use borrow.Author.Tests.{lt-ltb, le-ltb, lt-leb, le-leb, eq-eqb, ne_eqb}
use Rattle.bits.proofs.Cases.{below_or_not}
use Rattle.count.specs.declared.Spread.{Spread}
use Rattle.count.specs.Count.{decoded, from_to, at_least, refused_with, spread_of}
use Rattle.sum.specs.Sum.{added, every, low_sum, high_sum, all_listed, all_bounded, largest_number, sum_of, summed}
use Rattle.sum.specs.Total.{total, plus, both_ends}
use Rattle.std.proofs.Common.{Some, None, Option}

-- ---- a sum as code holds it

pub fits : (n : ℕ) → n ≤ largest_number → total n ≡ Some n
unfolding total
fits n h = rw (le-leb n largest_number h)

pub passes : (n : ℕ) → largest_number < n → total n ≡ None
unfolding total
passes n h = rw (lt-leb n largest_number h)

-- One number more.
pub one_more : (sum n : ℕ) → plus (total sum) n ≡ total (sum + n)
unfolding plus
one_more sum n =
    ⊎_elim (λ (h : largest_number < sum). rw (passes sum h, passes (sum + n) (omega arith))) (λ (h : sum ≤ largest_number). rw (fits sum h))
    (below_or_not largest_number sum)

-- What is answered of two sums.
pub answered : (low high : ℕ) (bounded : Bool) → both_ends (total low) (total high) bounded ≡ sum_of low high bounded
unfolding both_ends sum_of
answered low high bounded =
    ⊎_elim (λ (h : largest_number < low). rw (passes low h, lt-ltb largest_number low h))
    (λ (h : low ≤ largest_number). rw (fits low h, le-ltb largest_number low h) (by_end bounded)) (below_or_not largest_number low)
  where
    by_end : (b : Bool)
        → both_ends (Some low) (total high) b
        ≡ cond (not b) (at_least low) (cond (ltb largest_number high) (refused_with 9) (from_to low high))
    by_end false = refl
    by_end true =
        ⊎_elim (λ (h : largest_number < high). rw (passes high h, lt-ltb largest_number high h))
        (λ (h : high ≤ largest_number). rw (fits high h, le-ltb largest_number high h)) (below_or_not largest_number high)

-- ---- what is left of a run

-- From place i on: the sums so far and those of what is left are the run's, and so for what every encoding is.
pub record Left (run : List ℕ) (i : ℕ) (low high : Option ℕ) (bounded : Bool) : Type 0 where
  pub smallest : ℕ
  pub largest : ℕ
  pub low_is : low ≡ total smallest
  pub high_is : high ≡ total largest
  pub lows : smallest + low_sum (drop i run) ≡ low_sum run
  pub highs : largest + high_sum (drop i run) ≡ high_sum run
  pub bounds : bounded && all_bounded (drop i run) ≡ all_bounded run
  pub lists : all_listed (drop i run) ≡ all_listed run

pub begins : (run : List ℕ) {i : ℕ} → i ≡ 0 → Left run i (Some 0) (Some 0) true
begins run e =
    rw e
    (record {
      smallest = 0;
      largest = 0;
      low_is = sym (fits 0 (omega arith));
      high_is = sym (fits 0 (omega arith));
      lows = omega arith;
      highs = omega arith;
      bounds = refl;
      lists = refl;
    })

-- A turn: the encoding at place i is in its list, and its ends are added.
pub turned : (run : List ℕ) (i : ℕ) (low high : Option ℕ) (bounded : Bool) → Left run i low high bounded → i < length run
    → (spread_of (decoded (get_or run i 0))).number ≡ 0
    → Left run (suc i) (plus low (spread_of (decoded (get_or run i 0))).low) (plus high (spread_of (decoded (get_or run i 0))).high)
    (bounded && eqb (spread_of (decoded (get_or run i 0))).bounded 1)
unfolding added every
turned run i low high bounded l h listed =
    let one : Spread = spread_of (decoded (get_or run i 0)) in
    let next = drop-cons run i 0 h in
    record {
      smallest = l.smallest + one.low;
      largest = l.largest + one.high;
      low_is = rw l.low_is (one_more l.smallest one.low);
      high_is = rw l.high_is (one_more l.largest one.high);
      lows = omega (arith, l.lows, ap low_sum next);
      highs = omega (arith, l.highs, ap high_sum next);
      bounds = and_assoc bounded (eqb one.bounded 1) (all_bounded (drop (suc i) run)) ∙ ap (λ (b : Bool). bounded && b) (sym (ap all_bounded next)) ∙ l.bounds;
      lists = sym (ap all_listed next ∙ rw (eq-eqb one.number 0 listed)) ∙ l.lists;
    }

-- The encoding at place i is outside its list.
pub outside : (run : List ℕ) (i : ℕ) (low high : Option ℕ) (bounded : Bool) → Left run i low high bounded → i < length run
    → (spread_of (decoded (get_or run i 0))).number ≢ 0
    → refused_with 4 ≡ summed run
unfolding summed every
outside run i low high bounded l h refused =
    let none : all_listed run ≡ false = sym l.lists ∙ ap all_listed (drop-cons run i 0 h) ∙ rw (ne_eqb (spread_of (decoded (get_or run i 0))).number 0 refused) in
    rw none

-- Nothing is left.
pub ended : (run : List ℕ) (i : ℕ) (low high : Option ℕ) (bounded : Bool) → Left run i low high bounded → length run ≤ i
    → both_ends low high bounded ≡ summed run
unfolding summed added every
ended run i low high bounded l h =
    let nothing : drop i run ≡ [] = drop_of_length-le run h in
    let listed : all_listed run ≡ true = sym l.lists ∙ ap all_listed nothing in
    let all-bounded : all_bounded run ≡ bounded = sym l.bounds ∙ ap (λ (list : List ℕ). bounded && all_bounded list) nothing ∙ and-true bounded in
    let lows : low_sum run ≡ l.smallest = omega (arith, l.lows, ap low_sum nothing) in
    let highs : high_sum run ≡ l.largest = omega (arith, l.highs, ap high_sum nothing) in
    rw (listed, all-bounded, lows, highs, l.low_is, l.high_is) (answered l.smallest l.largest bounded)
