-- Where recording is prohibited, as defined: bit k of the word is 1 exactly where it is not at side k.
use Prim.Native.Nat.{ℕ, zero, suc, ◌+◌, ◌*◌, ◌^◌, ◌/◌, ◌%◌, ◌≤◌}
use native.Mathlib.Omega.{arith}
use mathlib.Core.Path.{◌≡◌, refl, ◌∙◌}
use mathlib.Core.Bool.{Bool, true, false, cond, ◌&&◌, ◌||◌, not}
use lib.Dec.{eqb, leb}
use borrow.Author.Tests.{lt-leb, eq-eqb, ne_eqb}
use Rattle.state.specs.Named.{TGE, EL2Enabled, el3_recording_enabled}
use Rattle.region.specs.Region.{prohibited_by_sbrbe, enabled, prohibited}
use Rattle.region.proofs.prohibited.Goals as goal

-- One of two bits is a bit.
one : (b : Bool) (x y : ℕ) → cond b (x % 2) (y % 2) ≤ 1
one true x y = omega arith
one false x y = omega arith

-- A side's place in the word, and what the word's bit there says of it.
abbrev place : ℕ → ℕ
place side = cond (leb side 4) side 0

abbrev hidden : Bool → Bool → Bool → Bool → ℕ → Bool
hidden el0 el1 el2 el3 side = eqb side 4 || cond (eqb side 3) (not el3) (not (cond (eqb side 2) el2 (cond (eqb side 1) el1 el0)))

-- A bit is 0 where it is not 1.
not_set : (n bit : ℕ) → n ≡ bit → bit ≤ 1 → eqb n 0 ≡ not (eqb bit 1)
not_set n zero e h = rw e
not_set n (suc zero) e h = rw e
not_set n (suc (suc k)) e h = absurd (omega arith)

abbrev bits : ℕ → ℕ → ℕ → ℕ → ℕ
bits a b c d = a + b * 2 + c * 4 + d * 8

in_word : (a b c d : ℕ) → a ≤ 1 → b ≤ 1 → c ≤ 1 → d ≤ 1 → (side : ℕ)
    → eqb (bits a b c d / 2 ^ place side % 2) 0 ≡ hidden (eqb a 1) (eqb b 1) (eqb c 1) (eqb d 1) side
in_word a b c d i j k l zero = not_set (bits a b c d / 1 % 2) a (omega arith) i
in_word a b c d i j k l (suc zero) = not_set (bits a b c d / 2 % 2) b (omega arith) j
in_word a b c d i j k l (suc (suc zero)) = not_set (bits a b c d / 4 % 2) c (omega arith) k
in_word a b c d i j k l (suc (suc (suc zero))) = not_set (bits a b c d / 8 % 2) d (omega arith) l
in_word a b c d i j k l (suc (suc (suc (suc zero)))) = eq-eqb (bits a b c d / 16 % 2) 0 (omega arith)
in_word a b c d i j k l (suc (suc (suc (suc (suc n))))) =
    let side : ℕ = suc (suc (suc (suc (suc n)))) in
    rw (lt-leb side 4 (omega arith), ne_eqb side 4 (omega arith), ne_eqb side 3 (omega arith), ne_eqb side 2 (omega arith), ne_eqb side 1 (omega arith))
    (not_set (bits a b c d / 1 % 2) a (omega arith) i)

-- The word of the code, where SBRBE may prohibit the three levels below EL3.
abbrev word : Bool → Bool → ℕ → ℕ → ℕ → ℕ
word by-SBRBE el3 el0 el1 el2 = cond by-SBRBE 0 (el0 + el1 * 2 + el2 * 4) + cond el3 8 0

no_level : (side : ℕ) (el3 : Bool) → hidden false false false el3 side ≡ (eqb side 4 || cond (eqb side 3) (not el3) true)
no_level side el3 = rw (none (eqb side 2) (eqb side 1))
  where
    none : (s t : Bool) → not (cond s false (cond t false false)) ≡ true
    none true t = refl
    none false true = refl
    none false false = refl

word_says : (by-SBRBE el3 : Bool) (a b c : ℕ) → a ≤ 1 → b ≤ 1 → c ≤ 1 → (side : ℕ)
    → eqb (word by-SBRBE el3 a b c / 2 ^ place side % 2) 0
    ≡ (eqb side 4 || cond (eqb side 3) (not el3) (by-SBRBE || not (cond (eqb side 2) (eqb c 1) (cond (eqb side 1) (eqb b 1) (eqb a 1)))))
word_says false true a b c i j k side = in_word a b c 1 i j k (omega arith) side
word_says false false a b c i j k side = in_word a b c 0 i j k (omega arith) side
word_says true true a b c i j k side = in_word 0 0 0 1 (omega arith) (omega arith) (omega arith) (omega arith) side ∙ no_level side true
word_says true false a b c i j k side = in_word 0 0 0 0 (omega arith) (omega arith) (omega arith) (omega arith) side ∙ no_level side false

either_bit : (b : Bool) (x y : ℕ) → eqb (cond b x y) 1 ≡ cond b (eqb x 1) (eqb y 1)
either_bit true x y = refl
either_bit false x y = refl

below : (by-SBRBE : Bool) (n : ℕ) → n ≤ 7 → cond by-SBRBE 0 n ≤ 7
below true n h = omega arith
below false n h = h

pub returns : goal.returns
unfolding prohibited enabled
returns c =
    let given = c.args in
    let s = given.s in
    rw (c.pick-place.ensures, c.pick-el3.ensures, c.el3_recording_enabled.ensures, c.pick-below3.ensures, c.prohibited_by_sbrbe.ensures, c.pick-el0.ensures, c.el2_enabled.ensures, ← either_bit (TGE s && EL2Enabled s) (s.brbcr2 / 1 % 2) (s.brbcr1 / 1 % 2))
    (word_says (prohibited_by_sbrbe s) (el3_recording_enabled s) (cond (TGE s && EL2Enabled s) (s.brbcr2 / 1 % 2) (s.brbcr1 / 1 % 2)) (s.brbcr1 / 2 % 2) (s.brbcr2 / 2 % 2)
    (one (TGE s && EL2Enabled s) (s.brbcr2 / 1) (s.brbcr1 / 1)) (omega arith) (omega arith) given.side)
