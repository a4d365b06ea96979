-- Laws of sums over runs of encodings: of two runs joined, of the counts themselves, and when 9 is given. Assumes nothing.
use Prim.Native.Nat.{ℕ, zero, suc, ◌+◌, ◌*◌, ◌-◌, ◌^◌, ◌≤◌, ◌<◌}
use native.Mathlib.Nat.{suc-mul}
use native.Mathlib.Omega.{arith}
use mathlib.Core.Path.{◌≡◌, refl, sym, ap, ◌∙◌}
use mathlib.Core.Bool.{Bool, true, false, cond, ◌&&◌, not, and_assoc}
use mathlib.Core.List.{List, [], ◌∷◌, ◌++◌, map}
use lib.Dec.{eqb}
use lib.ListN.{length, replicate}
use borrow.Author.Tests.{lt-ltb, le-ltb, eqb-true}
use Rattle.bits.proofs.Each.{each}
use Rattle.count.specs.declared.Spread.{Spread}
use Rattle.count.specs.Count.{exceeded, encoded, decoded, from_to, at_least, refused_with, spread_of}
use Rattle.count.proofs.Laws.{decoded-exceeded, in_spread, ends_small}
use Rattle.sum.specs.Sum.{added, every, low_sum, high_sum, all_listed, all_bounded, largest_number, sum_of, summed}

-- ---- two runs joined

-- One end of two runs joined is that of both, added.
pub added-joined : (end : Spread → ℕ) (run more : List ℕ) → added end (run ++ more) ≡ added end run + added end more
unfolding added
added-joined end [] more = omega arith
added-joined end (cc ∷ run) more = omega (arith, added-joined end run more)

-- Every one of two runs joined is such a one exactly if every one of both is.
pub every-joined : (is : Spread → Bool) (run more : List ℕ) → every is (run ++ more) ≡ every is run && every is more
unfolding every
every-joined is [] more = refl
every-joined is (cc ∷ run) more =
    ap (λ (b : Bool). is (spread_of (decoded cc)) && b) (every-joined is run more)
    ∙ sym (and_assoc (is (spread_of (decoded cc))) (every is run) (every is more))

-- ---- the counts themselves

-- Counts, added up.
abbrev pub count_sum : List ℕ → ℕ
count_sum [] = 0
count_sum (n ∷ counts) = n + count_sum counts

-- No encoding of a count is refused.
pub encoded_listed : (counts : List ℕ) → all_listed (map encoded counts) ≡ true
unfolding every
encoded_listed [] = refl
encoded_listed (n ∷ counts) = rw ((in_spread n).accepted, encoded_listed counts)

-- The sum of counts is not below that of the smallest ones of their encodings.
pub not_below : (counts : List ℕ) → low_sum (map encoded counts) ≤ count_sum counts
unfolding added
not_below [] = omega arith
not_below (n ∷ counts) = omega (arith, (in_spread n).from, not_below counts)

-- Where there is an upper end, it is not above that of the largest ones, and exceeds that of the smallest by at most a 256th part.
pub not_above : (counts : List ℕ) → all_bounded (map encoded counts) ≡ true
    → (count_sum counts ≤ high_sum (map encoded counts)) × (256 * (count_sum counts - low_sum (map encoded counts)) ≤ low_sum (map encoded counts))
unfolding added every
not_above [] h = omega arith
not_above (n ∷ counts) h =
    let one = in_spread n in
    let bounded = eqb-true (spread_of (decoded (encoded n))).bounded 1 (search each) in
    let others = not_above counts (search each) in
    omega (arith, one.from, one.to bounded, one.near bounded, others, not_below counts)

-- ---- when 9 is given

-- A sum has at most 1,048,576 an encoding.
sums_small : (run : List ℕ) → (low_sum run ≤ length run * 1048576) × (high_sum run ≤ length run * 1048576)
unfolding added
sums_small [] = omega arith
sums_small (cc ∷ run) = omega (arith, ends_small cc, sums_small run)

-- A run of fewer than 2^44 encodings that are all in their list is never refused: both sums are answered, the upper one where there is one.
pub never_nine : (run : List ℕ) → length run < 2 ^ 44 → all_listed run ≡ true
    → summed run ≡ cond (all_bounded run) (from_to (low_sum run) (high_sum run)) (at_least (low_sum run))
unfolding summed sum_of
never_nine run short listed =
    rw (listed, le-ltb largest_number (low_sum run) (omega (arith, sums_small run)), le-ltb largest_number (high_sum run) (omega (arith, sums_small run)))
    (go (all_bounded run))
  where
    go : (b : Bool) → cond (not b) (at_least (low_sum run)) (from_to (low_sum run) (high_sum run)) ≡ cond b (from_to (low_sum run) (high_sum run)) (at_least (low_sum run))
    go true = refl
    go false = refl

added_alike : (end : Spread → ℕ) (n cc : ℕ) → added end (replicate n cc) ≡ n * end (spread_of (decoded cc))
unfolding added
added_alike end zero cc = omega arith
added_alike end (suc n) cc = omega (arith, added_alike end n cc, suc-mul n (end (spread_of (decoded cc))))

every_alike : (is : Spread → Bool) (n cc : ℕ) → is (spread_of (decoded cc)) ≡ true → every is (replicate n cc) ≡ true
unfolding every
every_alike is zero cc h = refl
every_alike is (suc n) cc h = rw (h, every_alike is n cc h)

-- From 2^44 on it can be met: where all of them exceeded.
pub nine_is_met : (n : ℕ) → 2 ^ 44 ≤ n → summed (replicate n exceeded) ≡ refused_with 9
unfolding summed sum_of
nine_is_met n h =
    let listed : all_listed (replicate n exceeded) ≡ true = every_alike (λ s. eqb s.number 0) n exceeded (rw decoded-exceeded) in
    let large : largest_number < low_sum (replicate n exceeded) = rw (added_alike (λ s. s.low) n exceeded, decoded-exceeded) (omega arith) in
    rw (listed, lt-ltb largest_number (low_sum (replicate n exceeded)) large)
