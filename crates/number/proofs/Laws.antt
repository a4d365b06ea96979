-- What is written reads back, and what reads is what is written: each law by induction on the count of bytes allowed.
-- Assumes nothing.
use mathlib.Core.Path.{◌≡◌, refl, sym, ap, ◌∙◌}
use mathlib.Core.Logic.{⊎_elim}
use mathlib.Core.List.{List, [], ◌∷◌, ◌++◌, append_assoc}
use Prim.Native.Nat.{ℕ, zero, suc, ◌+◌, ◌*◌, ◌-◌, ◌^◌, ◌/◌, ◌%◌, ◌≤◌, ◌<◌}
use native.Mathlib.Nat.{pow-suc, add-zero}
use native.Mathlib.Omega.{arith}
use borrow.Author.Tests.{lt-ltb, le-ltb, le-leb, lt-leb, eq-eqb, ne_eqb}
use lib.ListN.{length, take, drop, get_or, set, length-append, length-drop}
use Rattle.std.proofs.Math.Pow.{pow_mono}
use Rattle.std.proofs.lemmas.Nat.{pow_pos, pow-add}
use lib.Seq.{drop-drop, drop_at, get_or-drop, length-take-le, sets, sets-eq, length-sets}
use mir.Val.{Fits}
use mir.Syntax.{w8}
use Rattle.bits.proofs.Cases.{below_or_not}
use Rattle.number.specs.Number.{Found, continued, number_in, number_at, bytes_in, bytes_of, written}
use Rattle.number.specs.declared.Fault.TheVariants.{Malformed, Ended}
use Rattle.std.proofs.Common.{Ok, Err}
use Rattle.bits.proofs.Pairs.{ok_parts}

-- One byte or more, written
pub last_in : (k n : ℕ) → n < 128 → bytes_in (suc k) n ≡ n ∷ []
unfolding bytes_in
last_in k n h = rw (lt-ltb n 128 h)

pub more_in : (k n : ℕ) → 128 ≤ n → bytes_in (suc k) n ≡ (n % 128 + 128) ∷ bytes_in k (n / 128)
unfolding bytes_in
more_in k n h = rw (le-ltb n 128 h)

-- One byte or more, read
pub last_read : (k b : ℕ) (s : List ℕ) (at : ℕ) → b < 128 → number_in (suc k) (b ∷ s) at ≡ Ok (b, at + 1)
unfolding number_in
last_read k b s at h = rw (lt-ltb b 128 h)

pub more_read : (k b : ℕ) (s : List ℕ) (at : ℕ) → 128 ≤ b
    → number_in (suc k) (b ∷ s) at ≡ continued b (number_in k s (at + 1))
unfolding number_in
more_read k b s at h = rw (le-ltb b 128 h)

pub continued_value : (b n next : ℕ) → 0 < n → n < 2 ^ 57 → continued b (Ok (n, next)) ≡ Ok (b - 128 + 128 * n, next)
continued_value b n next p h = rw (ne_eqb n 0 (omega arith), lt-leb (2 ^ 57) n h)

-- Where k + 1 bytes are enough, one more changes nothing
enough : (k n : ℕ) → n < 2 * 128 ^ k → bytes_in (suc k) n ≡ bytes_in (suc (suc k)) n
enough zero n h = rw (last_in 0 n (omega arith), last_in 1 n (omega arith))
enough (suc k) n h =
    ⊎_elim (λ l. rw (last_in (suc k) n l, last_in (suc (suc k)) n l))
    (λ g. rw (more_in (suc k) n g, more_in (suc (suc k)) n g, enough k (n / 128) (omega (arith, pow-suc 128 k))))
    (below_or_not n 128)

pub last_of : (n : ℕ) → n < 128 → bytes_of n ≡ n ∷ []
unfolding bytes_of
last_of n h = last_in 9 n h

pub more_of_lem : (n : ℕ) → 128 ≤ n → n < 2 ^ 64 → bytes_of n ≡ (n % 128 + 128) ∷ bytes_of (n / 128)
unfolding bytes_of
more_of_lem n g h = more_in 9 n g ∙ ap (λ (l : List ℕ). (n % 128 + 128) ∷ l) (enough 8 (n / 128) (omega arith))

-- At least one byte, and at most k
length_in : (k n : ℕ) → (0 < k → 1 ≤ length (bytes_in k n)) × (length (bytes_in k n) ≤ k)
unfolding bytes_in
length_in zero n = (λ h. omega arith, omega arith)
length_in (suc k) n =
    ⊎_elim (λ l. rw (last_in k n l) (λ _. omega arith, omega arith))
    (λ g. let h = length_in k (n / 128) in rw (more_in k n g) (λ _. omega arith, omega arith))
    (below_or_not n 128)

pub length_of : (n : ℕ) → (1 ≤ length (bytes_of n)) × (length (bytes_of n) ≤ 10)
unfolding bytes_of
length_of n = let h = length_in 10 n in (h.0 (omega arith), h.1)

-- One byte, and several
pub one_byte : (n : ℕ) → n < 2 ^ 64 → length (bytes_of n) ≡ 1 → n < 128
one_byte n w e =
    ⊎_elim (λ l. l) (λ g. absurd (omega (arith, ap length (more_of_lem n g w), length_of (n / 128)))) (below_or_not n 128)

pub several_bytes : (n : ℕ) → 1 < length (bytes_of n) → 128 ≤ n
several_bytes n h = ⊎_elim (λ l. absurd (omega (arith, ap length (last_of n l)))) (λ g. g) (below_or_not n 128)

-- By the place of its highest binary digit.
pub length_by : (k e n : ℕ) → 7 * k ≤ e → e < 7 * k + 7 → 2 ^ e ≤ n → n < 2 * 2 ^ e → n < 2 ^ 64 → length (bytes_of n) ≡ k + 1
length_by zero e n l u low high w = rw (last_of n (omega (arith, pow_mono {i = e} {j = 6} (omega arith)))) refl
length_by (suc k) e n l u low high w =
    let same : e ≡ e - 7 + 7 = omega arith in
    let shifted : 2 ^ e ≡ 2 ^ (e - 7) * 128 = ap (λ (k : ℕ). 2 ^ k) same ∙ pow-add 2 (e - 7) 7 in
    let some = pow_pos (e - 7) in
    rw
    (more_of_lem n (omega arith) w)
    (omega (arith, length_by k (e - 7) (n / 128) (omega arith) (omega arith) (omega arith) (omega arith) (omega arith)))

byte_in : (k n i : ℕ) → get_or (bytes_in k n) i 0 < 256
unfolding bytes_in
byte_in zero n i = omega arith
byte_in (suc k) n zero =
    ⊎_elim (λ l. rw (last_in k n l) (omega arith)) (λ g. rw (more_in k n g) (omega arith)) (below_or_not n 128)
byte_in (suc k) n (suc i) =
    ⊎_elim (λ l. rw (last_in k n l) (omega arith)) (λ g. rw (more_in k n g) (byte_in k (n / 128) i)) (below_or_not n 128)

pub byte_of : (n i : ℕ) → get_or (bytes_of n) i 0 < 256
unfolding bytes_of
byte_of n i = byte_in 10 n i

-- A write is a run of stores; so one write after another is one write
pub sets_written : (out : List ℕ) (at : ℕ) (bytes : List ℕ) → at + length bytes ≤ length out
    → sets out at bytes ≡ written out at bytes
sets_written out at bytes h =
    sets-eq bytes out at h ∙ append_assoc (take at out) bytes (drop (at + length bytes) out)

sets_append : (out : List ℕ) (at : ℕ) (xs ys : List ℕ) → sets (sets out at xs) (at + length xs) ys ≡ sets out at (xs ++ ys)
sets_append out at [] ys = rw add-zero
sets_append out at (x ∷ xs) ys =
    let e : at + suc (length xs) ≡ suc at + length xs = omega arith in
    rw e (sets_append (set out at x) (suc at) xs ys)

pub written_more : (out : List ℕ) (at : ℕ) (xs ys : List ℕ) → at + length (xs ++ ys) ≤ length out
    → written (written out at xs) (at + length xs) ys ≡ written out at (xs ++ ys)
written_more out at xs ys h =
    let sum = length-append xs ys in
    let first = sets_written out at xs (omega arith) in
    let second = sets_written (sets out at xs) (at + length xs) ys (rw length-sets (omega arith)) in
    ap (λ (l : List ℕ). written l (at + length xs) ys) (sym first)
    ∙ sym second ∙ sets_append out at xs ys ∙ sets_written out at (xs ++ ys) h

-- What is written reads back
ReadsBack : ℕ → ℕ → ℕ → List ℕ → Type 0
ReadsBack k n at b = number_in k (bytes_in k n ++ b) at ≡ Ok (n, at + length (bytes_in k n))

read_last : (k n at : ℕ) (b : List ℕ) → n < 128 → ReadsBack (suc k) n at b
unfolding ReadsBack
read_last k n at b l = rw (last_in k n l) (last_read k n b at l)

read_more : (k n at : ℕ) (b : List ℕ) → 128 ≤ n → n < 2 ^ 64 → ReadsBack k (n / 128) (at + 1) b → ReadsBack (suc k) n at b
unfolding ReadsBack
read_more k n at b g w ih =
    let rest : List ℕ = bytes_in k (n / 128) in
    let top : 128 ≤ n % 128 + 128 = omega arith in
    let value : n % 128 + 128 - 128 + 128 * (n / 128) ≡ n = omega arith in
    let next : at + 1 + length rest ≡ at + suc (length rest) = omega arith in
    rw (more_in k n g)
    (more_read k (n % 128 + 128) (rest ++ b) at top
    ∙ ap (continued (n % 128 + 128)) ih
    ∙ continued_value (n % 128 + 128) (n / 128) (at + 1 + length rest) (omega arith) (omega arith)
    ∙ rw (value, next))

read_in : (k n at : ℕ) (b : List ℕ) → n < 2 * 128 ^ k → n < 2 ^ 64 → ReadsBack (suc k) n at b
read_in zero n at b h w = read_last 0 n at b (omega arith)
read_in (suc k) n at b h w =
    ⊎_elim (λ l. read_last (suc k) n at b l)
    (λ g. read_more (suc k) n at b g w (read_in k (n / 128) (at + 1) b (omega (arith, pow-suc 128 k)) (omega arith)))
    (below_or_not n 128)

pub read_written : (s : List ℕ) (at n : ℕ) (b : List ℕ) → n < 2 ^ 64 → drop at s ≡ bytes_of n ++ b
    → number_at s at ≡ Ok (n, at + length (bytes_of n))
unfolding number_at bytes_of ReadsBack
read_written s at n b h e = rw e (read_in 9 n at b h h)

pub written_reads : (out : List ℕ) (at n : ℕ) → n < 2 ^ 64 → at + length (bytes_of n) ≤ length out
    → number_at (written out at (bytes_of n)) at ≡ Ok (n, at + length (bytes_of n))
written_reads out at n h f =
    let past : List ℕ = drop (at + length (bytes_of n)) out in
    let front : length (take at out) ≡ at = length-take-le at out (omega arith) in
    read_written (written out at (bytes_of n)) at n past h (drop_at (take at out) (bytes_of n ++ past) at front)

-- What reads is what is written: each element is a byte, as a lent slice of bytes gives it
abbrev pub Bytes : List ℕ → Type 0
Bytes s = (i : ℕ) → Fits w8 (get_or s i 0)

never : {A : Type 0} → ◌≡◌ {A = ℕ} 0 1 → A
never e = absurd (omega arith)

-- What follows a byte that says so is a number too, and not 0.
pub continued_inv : (b : ℕ) (f : Found) (n next : ℕ) → continued b f ≡ Ok (n, next)
    → (m : ℕ) × (f ≡ Ok (m, next)) × (0 < m) × (m < 2 ^ 57) × (n ≡ b - 128 + 128 * m)
continued_inv b (Ok (m, x)) n next e =
    ⊎_elim (λ z. let v = rw (eq-eqb m 0 (omega arith)) at e in never (cc))
    (λ p.
    ⊎_elim (λ l.
    let parts = ok_parts (b - 128 + 128 * m) n x next (rw (continued_value b m x p l) at e) in
    (m, rw parts.1 refl, p, l, sym parts.0))
    (λ g. let v = rw (ne_eqb m 0 (omega arith), le-leb (2 ^ 57) m g) at e in never (cc))
    (below_or_not m (2 ^ 57)))
    (below_or_not m 1)
continued_inv b (Err fault) n next e = never (cc)

Whole : ℕ → List ℕ → ℕ → ℕ → ℕ → Type 0
Whole k s at n next =
    (n < 2 ^ 64) × (next ≡ at + length (bytes_in k n)) × (s ≡ bytes_in k n ++ drop (length (bytes_in k n)) s)

whole_last : (k b : ℕ) (s : List ℕ) (at : ℕ) → b < 128 → Whole (suc k) (b ∷ s) at b (at + 1)
unfolding Whole
whole_last k b s at l = rw (last_in k b l) (omega arith, refl, refl)

whole_more : (k b : ℕ) (s : List ℕ) (at m next : ℕ) → 128 ≤ b → b < 256 → 0 < m → m < 2 ^ 57
    → Whole k s (at + 1) m next → Whole (suc k) (b ∷ s) at (b - 128 + 128 * m) next
unfolding Whole
whole_more k b s at m next g w p l ih =
    let head : (b - 128 + 128 * m) % 128 + 128 ≡ b = omega arith in
    let rest : (b - 128 + 128 * m) / 128 ≡ m = omega arith in
    let on : at + 1 + length (bytes_in k m) ≡ at + suc (length (bytes_in k m)) = omega arith in
    rw (more_in k (b - 128 + 128 * m) (omega arith), head, rest)
    (omega arith, ih.1 ∙ on, ap (λ (r : List ℕ). b ∷ r) ih.2)

reads_in : (k : ℕ) (s : List ℕ) (at n next : ℕ) → Bytes s → number_in k s at ≡ Ok (n, next) → Whole k s at n next
unfolding number_in
reads_in zero s at n next h e = never (cc)
reads_in (suc k) [] at n next h e = never (cc)
reads_in (suc k) (b ∷ s) at n next h e =
    ⊎_elim (λ l.
    let (eb, en) = ok_parts b n (at + 1) next (sym (last_read k b s at l) ∙ e) in
    rw (← eb, ← en) (whole_last k b s at l))
    (λ g.
    let i = continued_inv b (number_in k s (at + 1)) n next (sym (more_read k b s at g) ∙ e) in
    rw i.4 (whole_more k b s at i.0 next g (h 0).fits i.2 i.3 (reads_in k s (at + 1) i.0 next (λ j. h (suc j)) i.1)))
    (below_or_not b 128)

-- A number that reads: it is below 2^64, its bytes are the shortest form of it, and the next place is past them
pub record Read (s : List ℕ) (at n next : ℕ) : Type 0 where
  pub small : n < 2 ^ 64
  pub place : next ≡ at + length (bytes_of n)
  pub bytes : drop at s ≡ bytes_of n ++ drop next s
  pub further : at < next
  pub within : next ≤ length s

pub what_reads : (s : List ℕ) (at n next : ℕ) → Bytes s → number_at s at ≡ Ok (n, next) → Read s at n next
unfolding number_at bytes_of Whole
what_reads s at n next h e =
    let w = reads_in 10 (drop at s) at n next (λ i. rw get_or-drop (h (at + i))) e in
    let past : drop (length (bytes_of n)) (drop at s) ≡ drop next s =
    drop-drop (length (bytes_of n)) at s ∙ ap (λ (k : ℕ). drop k s) (sym w.1) in
    let whole : drop at s ≡ bytes_of n ++ drop next s = w.2 ∙ ap (λ (r : List ℕ). bytes_of n ++ r) past in
    let sizes = simp (length-drop, length-append) at (ap length whole) in
    let some = length_of n in
    record { small = w.0; place = w.1; bytes = whole; further = omega arith; within = omega arith }

-- The document's examples: 300 is AC 02, and 80 00 is malformed. The largest number has ten bytes; in the tenth nothing but
-- 1 is below 2^64
nines : List ℕ → List ℕ
nines l = 255 ∷ 255 ∷ 255 ∷ 255 ∷ 255 ∷ 255 ∷ 255 ∷ 255 ∷ 255 ∷ l

examples : (bytes_of 300 ≡ 0xAC ∷ 0x02 ∷ []) × (number_at (0xAC ∷ 0x02 ∷ []) 0 ≡ Ok (300, 2))
    × (number_at (0x80 ∷ 0x00 ∷ []) 0 ≡ Err Malformed) × (number_at (0x80 ∷ []) 0 ≡ Err Ended)
    × (bytes_of (2 ^ 64 - 1) ≡ nines (1 ∷ [])) × (number_at (nines (1 ∷ [])) 0 ≡ Ok (2 ^ 64 - 1, 10))
    × (number_at (nines (2 ∷ [])) 0 ≡ Err Malformed)
unfolding number_at number_in bytes_of bytes_in nines
examples = (refl, refl, refl, refl, refl, refl, refl)
