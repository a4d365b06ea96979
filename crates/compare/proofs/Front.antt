-- Two operations are equal where nothing differs in them, and what is equal at the front of two lists is their longest common
-- front; both lists may be exchanged.
use Rattle.std.proofs.Common.{◌≡◌, ℕ, suc, ◌<◌, Bool, true, false, cond, eqb, List, [], ◌∷◌, length, drop, sym, refl, ap, ◌∙◌, arith, eq-eqb, ne_eqb, eqb-true}
use borrow.Author.Tests.{eqb-false}
use Rattle.bits.proofs.Cases.{never}
use Rattle.recording.specs.declared.Numbers.{Numbers}
use Rattle.compare.specs.Compare.{unlike, differing_numbers, differing, equal_front, first_differing}
use Rattle.compare.specs.Parted.{Parts, first_ended, second_ended, unequal, LongestFront}

-- ---- two operations

same_test : (m n : ℕ) → eqb m n ≡ eqb n m
same_test m n = go (eqb n m) refl
  where
    go : (t : Bool) → eqb n m ≡ t → eqb m n ≡ t
    go true e = eq-eqb m n (sym (eqb-true n m e))
    go false e = ne_eqb m n (λ h. eqb-false n m e (sym h))

like : (weight m n : ℕ) → 0 < weight → unlike weight m n ≡ 0 → m ≡ n
like weight m n h = go (eqb m n) refl
  where
    go : (t : Bool) → eqb m n ≡ t → cond t 0 weight ≡ 0 → m ≡ n
    go true e f = eqb-true m n e
    go false e f = absurd (omega arith)

-- Where nothing differs they are the same ...
pub then_same : (x y : Numbers) → differing x y ≡ 0 → x ≡ y
unfolding differing
then_same x y = go (eqb x.code y.code) refl
  where
    go : (t : Bool) → eqb x.code y.code ≡ t
        → cond t (differing_numbers x y) 1 ≡ 0
        → x ≡ y
    go true e h =
        let code = eqb-true x.code y.code e in
        let cycles = like 2 x.cycles y.cycles (omega arith) (omega (arith, h)) in
        let a = like 4 x.a y.a (omega arith) (omega (arith, h)) in
        let b = like 8 x.b y.b (omega arith) (omega (arith, h)) in
        let c = like 16 x.c y.c (omega arith) (omega (arith, h)) in
        let d = like 32 x.d y.d (omega arith) (omega (arith, h)) in
        λ i. record { code = code i; cycles = cycles i; a = a i; b = b i; c = c i; d = d i }
    go false e h = absurd (omega (arith, h))

-- ... and nothing differs in an operation and itself.
pub nothing_differs : (x : Numbers) → differing x x ≡ 0
unfolding differing
nothing_differs x =
    rw (eq-eqb x.code x.code refl, eq-eqb x.cycles x.cycles refl, eq-eqb x.a x.a refl, eq-eqb x.b x.b refl, eq-eqb x.c x.c refl, eq-eqb x.d x.d refl)

-- Which is the first of the two does not matter.
pub differing-swapped : (x y : Numbers) → differing x y ≡ differing y x
unfolding differing
differing-swapped x y =
    rw (same_test x.code y.code, same_test x.cycles y.cycles, same_test x.a y.a, same_test x.b y.b, same_test x.c y.c, same_test x.d y.d)

-- ---- two lists

-- What is counted is the longest common front.
pub longest_front : (list others : List Numbers) → LongestFront list others (equal_front list others)
unfolding equal_front
longest_front [] others = record { same = refl; parts = first_ended refl }
longest_front (x ∷ list) [] = record { same = refl; parts = second_ended refl }
longest_front (x ∷ list) (y ∷ others) = go (eqb (differing x y) 0) refl (longest_front list others)
  where
    behind_pair : {k : ℕ} → Parts list others k → Parts (x ∷ list) (y ∷ others) (suc k)
    behind_pair (first_ended e) = first_ended e
    behind_pair (second_ended e) = second_ended e
    behind_pair (unequal u v rest more e f h) = unequal u v rest more e f h

    go : (t : Bool) → eqb (differing x y) 0 ≡ t → LongestFront list others (equal_front list others)
        → LongestFront (x ∷ list) (y ∷ others) (cond t (suc (equal_front list others)) 0)
    go true e rest =
        record {
          same = (λ i. then_same x y (eqb-true (differing x y) 0 e) i ∷ rest.same i);
          parts = behind_pair rest.parts;
        }
    go false e rest =
        record {
          same = refl;
          parts = unequal x y list others refl refl (λ h. eqb-false (differing x y) 0 e (ap (differing x) (sym h) ∙ nothing_differs x));
        }

pub front_swapped : (list others : List Numbers) → equal_front list others ≡ equal_front others list
unfolding equal_front
front_swapped [] [] = refl
front_swapped [] (y ∷ others) = refl
front_swapped (x ∷ list) [] = refl
front_swapped (x ∷ list) (y ∷ others) = rw (differing-swapped x y, front_swapped list others)

pub first_swapped : (list others : List Numbers) → first_differing list others ≡ first_differing others list
unfolding first_differing
first_swapped [] [] = refl
first_swapped [] (y ∷ others) = refl
first_swapped (x ∷ list) [] = refl
first_swapped (x ∷ list) (y ∷ others) = rw (differing-swapped x y, first_swapped list others)

-- A list is equal to itself in all of its operations.
pub all_equal : (list : List Numbers) → equal_front list list ≡ length list
unfolding equal_front
all_equal [] = refl
all_equal (x ∷ list) = rw (nothing_differs x, all_equal list)

pub none_differs : (list : List Numbers) → first_differing list list ≡ 0
unfolding first_differing
none_differs [] = refl
none_differs (x ∷ list) = rw (nothing_differs x, none_differs list)

-- What is told of the first unequal pair: it stands behind the equal front, and this differs in it.
pub of_that_pair : (list others : List Numbers) (x y : Numbers) (rest more : List Numbers) → drop (equal_front list others) list ≡ x ∷ rest
    → drop (equal_front list others) others ≡ y ∷ more
    → first_differing list others ≡ differing x y
unfolding equal_front first_differing
of_that_pair [] others x y rest more e f = never (cc)
of_that_pair (u ∷ list) [] x y rest more e f = never (cc)
of_that_pair (u ∷ list) (v ∷ others) x y rest more e f = go (eqb (differing u v) 0) (of_that_pair list others x y rest more) e f
  where
    go : (t : Bool)
        → (drop (equal_front list others) list ≡ x ∷ rest → drop (equal_front list others) others ≡ y ∷ more → first_differing list others ≡ differing x y)
        → drop (cond t (suc (equal_front list others)) 0) (u ∷ list) ≡ x ∷ rest → drop (cond t (suc (equal_front list others)) 0) (v ∷ others) ≡ y ∷ more
        → cond t (first_differing list others) (differing u v) ≡ differing x y
    go true further e f = further e f
    go false further e f = cc
