-- What the groups of a number that are passed make of what the rest reads as: what each turn of the reader keeps.
-- Assumes nothing.
use mathlib.Core.Path.{◌≡◌, refl, sym, ap, ◌∙◌}
use mathlib.Core.Logic.{⊎_elim}
use mathlib.Core.Bool.{cond, ◌||◌}
use mathlib.Core.List.{List, ◌∷◌}
use Prim.Native.Nat.{ℕ, zero, suc, ◌+◌, ◌*◌, ◌-◌, ◌^◌, ◌≤◌, ◌<◌}
use native.Mathlib.Nat.{pow-suc, pow-succ', one-le-pow, mul-le-mul_left, mul-le-mul_right, mul_assoc, mul-add, mul-suc, add_assoc}
use native.Mathlib.Numerals.{add-one}
use native.Mathlib.Omega.{arith}
use borrow.Author.Tests.{le-leb, lt-leb, eq-eqb, ne_eqb}
use lib.Dec.{leb, eqb}
use lib.ListN.{length, drop, get_or, drop_of_length-le}
use lib.Seq.{drop-cons}
use mir.Val.{Fits}
use mir.Syntax.{w64}
use Rattle.number.specs.Number.{Found, continued, number_in}
use Rattle.bits.proofs.Cases.{below_or_not}
use Rattle.number.proofs.Laws.{last_read, more_read, continued_value}
use Rattle.number.specs.declared.Fault.TheVariants.{Malformed, Ended}
use Rattle.std.proofs.Common.{Ok, Err}

-- `value` is what the groups passed come to, the next group counts by `place`, and what the rest reads as is below `limit`
abbrev pub after : ℕ → ℕ → ℕ → Found → Found
after value place limit (Ok (n, next)) = cond (eqb n 0 || leb limit n) (Err Malformed) (Ok (value + place * n, next))
after value place limit (Err fault) = Err fault

after_first : (b : ℕ) (f : Found) → continued b f ≡ after (b - 128) 128 (2 * 128 ^ 8) f
after_first b (Ok (n, next)) = refl
after_first b (Err fault) = refl

after_large : (v p l n next : ℕ) → 0 < n → l ≤ n → after v p l (Ok (n, next)) ≡ Err Malformed
after_large v p l n next h g = rw (ne_eqb n 0 (omega arith), le-leb l n g)

after_value : (v p l n next : ℕ) → 0 < n → n < l → after v p l (Ok (n, next)) ≡ Ok (v + p * n, next)
after_value v p l n next h g = rw (ne_eqb n 0 (omega arith), lt-leb l n g)

-- One more group
after_more : (v p l b : ℕ) (f : Found) → 128 ≤ b → b < 256 → l ≤ 2 ^ 57
    → after v p (128 * l) (continued b f) ≡ after (v + p * (b - 128)) (p * 128) l f
after_more v p l b (Ok (n, next)) g h w =
    ⊎_elim (λ z. rw (eq-eqb n 0 (omega arith)))
    (λ z.
    ⊎_elim (λ s. ap (after v p (128 * l)) (continued_value b n next z s) ∙ grouped z)
    (λ s. rw (ne_eqb n 0 (omega arith), le-leb (2 ^ 57) n s, le-leb l n (omega arith)))
    (below_or_not n (2 ^ 57)))
    (below_or_not n 1)
  where
    sum : v + p * (b - 128 + 128 * n) ≡ v + p * (b - 128) + p * 128 * n
    sum = simp (mul-add, mul_assoc, add_assoc)

    grouped : 0 < n → after v p (128 * l) (Ok (b - 128 + 128 * n, next)) ≡ after (v + p * (b - 128)) (p * 128) l (Ok (n, next))
    grouped z =
        ⊎_elim (λ s. after_value v p (128 * l) (b - 128 + 128 * n) next (omega arith) (omega arith)
        ∙ rw sum (sym (after_value (v + p * (b - 128)) (p * 128) l n next z s)))
        (λ s. after_large v p (128 * l) (b - 128 + 128 * n) next (omega arith) (omega arith)
        ∙ sym (after_large (v + p * (b - 128)) (p * 128) l n next z s))
        (below_or_not n l)
after_more v p l b (Err fault) g h w = refl

-- The reader's invariant: at place i of the bytes s, with the tenth byte k places further, k + 1 bytes are still allowed, and
-- what the groups passed make of what they read as is the whole
pub record Passed (whole : Found) (s : List ℕ) (tenth value place i : ℕ) : Type 0 where
  pub k : ℕ
  pub far : i + k ≡ tenth
  pub room : place * 128 ^ k ≡ 2 ^ 63
  pub low : value < place
  pub reads : whole ≡ after value place (2 * 128 ^ k) (number_in (suc k) (drop i s) i)

pub passed_first : (s : List ℕ) (at b : ℕ) → 128 ≤ b → b < 256
    → Passed (continued b (number_in 9 (drop at s) at)) s (at + 8) (b - 128) 128 at
passed_first s at b g h =
    record { k = 8; far = refl; room = refl; low = omega arith; reads = after_first b (number_in 9 (drop at s) at) }

-- The next place
shifted : (j p : ℕ) → p * 128 ^ suc j ≡ 2 ^ 63 → (p * 128 * 128 ^ j ≡ 2 ^ 63) × (p * 128 ≤ 2 ^ 63)
shifted j p e =
    let same : p * 128 * 128 ^ j ≡ 2 ^ 63 = mul_assoc p 128 (128 ^ j) ∙ ap (λ (x : ℕ). p * x) (sym (pow-succ' 128 j)) ∙ e in
    (same, omega (arith, mul-le-mul_left (p * 128) (one-le-pow j 128 (omega arith))))

-- Before the tenth byte there is room for a whole group
record Room (k p : ℕ) : Type 0 where
  j : ℕ
  one_less : k ≡ suc j
  limit : 2 * 128 ^ k ≡ 128 * (2 * 128 ^ j)
  some : 1 ≤ 128 ^ j
  small : 2 * 128 ^ j ≤ 2 ^ 57
  room : p * 128 * 128 ^ j ≡ 2 ^ 63
  within : p * 128 ≤ 2 ^ 63

grow : (k p : ℕ) → p * 128 ^ k ≡ 2 ^ 63 → 0 < p → 0 < k → Room k p
grow zero p e z h = absurd (omega arith)
grow (suc j) p e z h =
    let s = shifted j p e in
    let q = pow-suc 128 j in
    let o = one-le-pow j 128 (omega arith) in
    let m = mul-le-mul_right (128 ^ suc j) z in
    record { j = j; one_less = refl; limit = omega arith; some = o; small = omega arith; room = s.0; within = s.1 }

-- At the tenth byte there is room for one bit
tenth : (k p : ℕ) → p * 128 ^ k ≡ 2 ^ 63 → k ≡ 0 → (2 * 128 ^ k ≡ 2) × (p ≡ 2 ^ 63)
tenth zero p e h = (refl, omega arith)
tenth (suc j) p e h = absurd (omega arith)

-- The rest, from a place past the end, and from one that holds a byte
pub past_end : (k : ℕ) (s : List ℕ) (i : ℕ) → length s ≤ i → number_in (suc k) (drop i s) i ≡ Err Ended
unfolding number_in
past_end k s i e = rw (drop_of_length-le s e)

pub from_byte : (s : List ℕ) (i : ℕ) → i < length s → drop i s ≡ get_or s i 0 ∷ drop (i + 1) s
from_byte s i h = rw add-one (drop-cons s i 0 h)

module _ {w : Found} {s : List ℕ} {t v p i : ℕ} (h : Passed w s t v p i) where
  pub ended : length s ≤ i → Err Ended ≡ w
  ended e = sym (rw (past_end h.k s i e) at h.reads)

  -- A byte that ends the number, and one that does not
  last : i < length s → get_or s i 0 < 128 → w ≡ after v p (2 * 128 ^ h.k) (Ok (get_or s i 0, i + 1))
  last e l = rw (from_byte s i e, last_read h.k (get_or s i 0) (drop (i + 1) s) i l) at h.reads

  more : i < length s → 128 ≤ get_or s i 0
      → w ≡ after v p (2 * 128 ^ h.k) (continued (get_or s i 0) (number_in h.k (drop (i + 1) s) (i + 1)))
  more e g = rw (from_byte s i e, more_read h.k (get_or s i 0) (drop (i + 1) s) i g) at h.reads

  pub zeroed : i < length s → get_or s i 0 ≡ 0 → Err Malformed ≡ w
  zeroed e z = sym (rw z at (last e (omega arith)))

  room_left : i < t → Room h.k p
  room_left l = grow h.k p h.room (omega (arith, h.low)) (omega (arith, h.far))

  -- Before the tenth byte: a whole group fits, ends the number or goes before the next
  group_fits : i < t → (b : ℕ) → b < 128 → (p * 128 ≤ 2 ^ 63) × (v + p * b < p * 128)
  group_fits l b g =
      let low = h.low in
      let q = room_left l in
      (q.within, omega (arith, mul-suc p b, mul-le-mul_left p g))

  pub place_fits : i < t → Fits w64 (p * 128)
  place_fits l = omega (arith, group_fits l 0 (omega arith))

  pub product_fits : i < t → {b : ℕ} → b < 128 → Fits w64 (p * b)
  product_fits l {b} g = omega (arith, group_fits l b g)

  pub sum_fits : i < t → {b : ℕ} → b < 128 → Fits w64 (v + p * b)
  sum_fits l {b} g = omega (arith, group_fits l b g)

  pub valued : i < t → i < length s → 0 < get_or s i 0 → get_or s i 0 < 128 → Ok (v + p * get_or s i 0, i + 1) ≡ w
  valued l e z g =
      let low = h.low in
      let q = room_left l in
      sym (last e g ∙ after_value v p (2 * 128 ^ h.k) (get_or s i 0) (i + 1) z (omega arith))

  pub turned : i < t → i < length s → 128 ≤ get_or s i 0 → get_or s i 0 < 256
      → Passed w s t (v + p * (get_or s i 0 - 128)) (p * 128) (i + 1)
  turned l e g b =
      let low = h.low in
      let q = room_left l in
      let group = group_fits l (get_or s i 0 - 128) (omega arith) in
      let rest : ℕ → Found = λ k. continued (get_or s i 0) (number_in k (drop (i + 1) s) (i + 1)) in
      let next = after_more v p (2 * 128 ^ q.j) (get_or s i 0) (number_in (suc q.j) (drop (i + 1) s) (i + 1)) g b q.small in
      record {
        k = q.j;
        far = omega (arith, h.far, q.one_less);
        room = q.room;
        low = group.1;
        reads = more e g ∙ ap (λ (k : ℕ). after v p (2 * 128 ^ h.k) (rest k)) q.one_less ∙ rw q.limit next;
      }

  -- At the tenth byte: 1 and nothing else
  none_left : t ≤ i → h.k ≡ 0
  none_left g = omega (arith, h.far)

  there : t ≤ i → (2 * 128 ^ h.k ≡ 2) × (p ≡ 2 ^ 63)
  there g = tenth h.k p h.room (none_left g)

  pub tenth_place : t ≤ i → p ≡ 2 ^ 63
  tenth_place g = (there g).1

  pub tenth_one : t ≤ i → i < length s → get_or s i 0 ≡ 1 → Ok (v + 2 ^ 63, i + 1) ≡ w
  tenth_one g e z =
      let at_tenth = there g in
      let sum : v + p * get_or s i 0 ≡ v + 2 ^ 63 = rw (z, at_tenth.1) in
      sym (last e (omega arith) ∙ after_value v p (2 * 128 ^ h.k) (get_or s i 0) (i + 1) (omega arith) (omega arith) ∙ rw sum)

  pub tenth_other : t ≤ i → i < length s → (get_or s i 0 ≡ 1 → ⊥) → Err Malformed ≡ w
  unfolding number_in
  tenth_other g e f =
      let at_tenth = there g in
      ⊎_elim (λ z. zeroed e (omega arith))
      (λ z.
      ⊎_elim (λ l. sym (last e l ∙ after_large v p (2 * 128 ^ h.k) (get_or s i 0) (i + 1) z (omega arith)))
      (λ m. sym (rw (none_left g) at (more e m)))
      (below_or_not (get_or s i 0) 128))
      (below_or_not (get_or s i 0) 1)
