-- Accesses in Arm's own words: the pseudocode of "MRS <Xt>, BRBCR_EL1" and its neighbours, exception level by exception level, and what
-- reads and writes do to the registers.
use Prim.Native.Nat.{ℕ, zero, suc, ◌+◌, ◌/◌, ◌%◌, ◌≤◌, ◌<◌}
use native.Mathlib.Omega.{arith}
use mathlib.Core.Path.{◌≡◌, refl, ap}
use mathlib.Core.Bool.{Bool, true, false, cond, ◌&&◌, ◌||◌, not}
use mathlib.Core.List.{List, [], ◌∷◌}
use borrow.Author.Tests.{le-leb, ne_eqb}
use lib.Bits.{bit_and}
use lib.Dec.{eqb}
use Rattle.bits.proofs.Cases.{or_true}
use Rattle.bits.specs.Bits.{is_set}
use Rattle.answer.specs.declared.Answer.{Answer}
use Rattle.answer.specs.declared.Answer.TheVariants.{Done, Undefined, Trap2, Trap3}
use Rattle.state.specs.declared.State.{State}
use Rattle.state.specs.Named.{NS, E2H, SBRBE, FGTEn, EL2Enabled}
use Rattle.state.specs.Sound.{control_mask, filter_mask}
use Rattle.room.specs.declared.Record.{Record}
use Rattle.access.specs.Access.{n_bit, trapped2, outcome, read_outcome, write_outcome, meant, register_value, register_written}

-- ---- how an access ends

-- "if … then …; elsif … then …; else …"
abbrev pub elsif : List (Bool × Answer) → Answer → Answer
elsif [] otherwise = otherwise
elsif (line ∷ lines) otherwise = cond line.0 line.1 (elsif lines otherwise)

-- MDCR_EL3.SBRBE != '11' && SCR_EL3.NS == '0'; MDCR_EL3.SBRBE == 'x0' && SCR_EL3.NS == '1'.
abbrev secure_trap : State → Bool
secure_trap s = not (eqb (SBRBE s) 0b11) && not (NS s)

abbrev other_trap : State → Bool
other_trap s = not (is_set 4 s.p) && NS s

-- 'x0' is 0 or 2.
x0 : (q : ℕ) → eqb (q % 4) 0 || eqb (q % 4) 2 ≡ not (eqb (q % 2) 1)
x0 q = let low : q % 2 ≡ q % 4 % 2 = omega arith in rw low (go (q % 4) (omega arith))
  where
    go : (k : ℕ) → k < 4 → eqb k 0 || eqb k 2 ≡ not (eqb (k % 2) 1)
    go zero h = refl
    go (suc zero) h = refl
    go (suc (suc zero)) h = refl
    go (suc (suc (suc zero))) h = refl
    go (suc (suc (suc (suc k)))) h = absurd (omega arith)

to_el3 : (s : State) → cond (not (NS s) && not (eqb (SBRBE s) 3) || NS s && (eqb (SBRBE s) 0 || eqb (SBRBE s) 2)) Trap3 Done
    ≡ cond (secure_trap s) Trap3 (cond (other_trap s) Trap3 Done)
to_el3 s = rw (x0 (s.p / 16)) (go (NS s) (eqb (SBRBE s) 3) (not (is_set 4 s.p)))
  where
    go : (ns all x : Bool) → cond (not ns && not all || ns && x) Trap3 Done ≡ cond (not all && not ns) Trap3 (cond (x && ns) Trap3 Done)
    go true true true = refl
    go true true false = refl
    go true false true = refl
    go true false false = refl
    go false true true = refl
    go false true false = refl
    go false false x = refl

-- By PSTATE.EL, where `undefined` says whether the access itself is, and `nbit` is its bit of HDFGRTR_EL2 or HDFGWTR_EL2.
pub ends_as_arm_says : (s : State) (undefined nbit : Bool)
    → (s.level ≡ 0 → outcome s undefined nbit ≡ Undefined)
    × (s.level ≡ 1
    → outcome s undefined nbit
    ≡ elsif ((undefined, Undefined) ∷ (EL2Enabled s && FGTEn s && not nbit, Trap2) ∷ (secure_trap s, Trap3) ∷ (other_trap s, Trap3) ∷ []) Done)
    × (s.level ≡ 2 → outcome s undefined nbit ≡ elsif ((undefined, Undefined) ∷ (secure_trap s, Trap3) ∷ (other_trap s, Trap3) ∷ []) Done)
    × (s.level ≡ 3 → outcome s undefined nbit ≡ elsif ((undefined, Undefined) ∷ []) Done)
unfolding outcome trapped2
ends_as_arm_says s u n = (
  λ e. rw e,
  λ e. rw e (ap (λ (end : Answer). cond u Undefined (cond (EL2Enabled s && FGTEn s && not n) Trap2 end)) (to_el3 s)),
  λ e. rw e (ap (λ (end : Answer). cond u Undefined end) (to_el3 s)),
  λ e. rw e,
)

-- What is undefined by itself, at every level and before every trap: a write of what cannot be written, and BRBCR_EL2 at EL1.
pub undefined_accesses : (s : State)
    → (write_outcome s 0 ≡ Undefined)
    × (write_outcome s 4 ≡ Undefined)
    × ((r : ℕ) → 32 ≤ r → r ≤ 127 → write_outcome s r ≡ Undefined)
    × (s.level ≡ 1 → read_outcome s 2 ≡ Undefined)
    × (s.level ≡ 1 → write_outcome s 2 ≡ Undefined)
unfolding outcome read_outcome write_outcome
undefined_accesses s = (
  rw (or_true (eqb s.level 0)),
  rw (or_true (eqb s.level 0)),
  λ r low high. rw (le-leb 32 r low, le-leb r 127 high, ne_eqb r 0 (omega arith), ne_eqb r 4 (omega arith), or_true (eqb s.level 0)),
  λ e. rw e,
  λ e. rw e,
)

-- Which n-bit each access looks at, by P's bits; reads and writes of control registers have one each.
pub n_bits : (s : State)
    → ((m : ℕ) → m < 96 → n_bit s false (32 + m) ≡ is_set 9 s.p)
    × (n_bit s false 4 ≡ is_set 9 s.p)
    × (n_bit s false 0 ≡ is_set 12 s.p)
    × (n_bit s false 1 ≡ is_set 10 s.p)
    × (n_bit s false 3 ≡ is_set 10 s.p)
    × (n_bit s true 1 ≡ is_set 11 s.p)
    × (n_bit s true 3 ≡ is_set 11 s.p)
unfolding n_bit
n_bits s = (
  λ m h. rw (le-leb 32 (32 + m) (omega arith), le-leb (32 + m) 127 (omega arith)),
  refl,
  refl,
  refl,
  refl,
  refl,
  refl,
)

-- ---- what a performed access reads and writes

-- "MRS <Xt>, BRBCR_EL1" and "MSR BRBCR_EL1, <Xt>": at EL2 with HCR_EL2.E2H 1 it is BRBCR_EL2, else BRBCR_EL1.
abbrev is_redirected : State → Bool
is_redirected s = eqb s.level 2 && E2H s

pub brbcr_el1_read : (s : State) (list : List Record) → register_value s list (meant s 1) ≡ cond (is_redirected s) s.brbcr2 s.brbcr1
unfolding register_value
brbcr_el1_read s list = go (is_redirected s)
  where
    go : (t : Bool) → register_value s list (cond (t && true) 2 1) ≡ cond t s.brbcr2 s.brbcr1
    go true = refl
    go false = refl

pub brbcr_el1_written : (s : State) (value : ℕ)
    → ((register_written s (meant s 1) value).brbcr2 ≡ cond (is_redirected s) (bit_and value control_mask) s.brbcr2)
    × ((register_written s (meant s 1) value).brbcr1 ≡ cond (is_redirected s) s.brbcr1 (bit_and value control_mask))
unfolding register_written
brbcr_el1_written s value = go (is_redirected s)
  where
    go : (t : Bool)
        → ((register_written s (cond (t && true) 2 1) value).brbcr2 ≡ cond t (bit_and value control_mask) s.brbcr2)
        × ((register_written s (cond (t && true) 2 1) value).brbcr1 ≡ cond t s.brbcr1 (bit_and value control_mask))
    go true = (refl, refl)
    go false = (refl, refl)

-- What a write keeps of a value: BRBCR_EL1 and BRBCR_EL2 their own bits, BRBFCR_EL1 its own.
abbrev pub kept_of : ℕ → ℕ → ℕ
kept_of r value = bit_and value (cond (eqb r 3) filter_mask control_mask)

-- A control register that was written reads as the bits that were kept, and the two others as before.
pub written_reads : (s : State) (list : List Record) (r q value : ℕ) → 1 ≤ r → r ≤ 3 → 1 ≤ q → q ≤ 3
    → register_value (register_written s r value) list q ≡ cond (eqb q r) (kept_of r value) (register_value s list q)
unfolding register_value register_written
written_reads s list r q value r-low r-high q-low q-high = go r q r-low r-high q-low q-high
  where
    go : (r q : ℕ) → 1 ≤ r → r ≤ 3 → 1 ≤ q → q ≤ 3
        → register_value (register_written s r value) list q ≡ cond (eqb q r) (kept_of r value) (register_value s list q)
    go zero q a b c d = absurd (omega arith)
    go (suc r) zero a b c d = absurd (omega arith)
    go (suc zero) (suc zero) a b c d = refl
    go (suc zero) (suc (suc zero)) a b c d = refl
    go (suc zero) (suc (suc (suc zero))) a b c d = refl
    go (suc zero) (suc (suc (suc (suc q)))) a b c d = absurd (omega arith)
    go (suc (suc zero)) (suc zero) a b c d = refl
    go (suc (suc zero)) (suc (suc zero)) a b c d = refl
    go (suc (suc zero)) (suc (suc (suc zero))) a b c d = refl
    go (suc (suc zero)) (suc (suc (suc (suc q)))) a b c d = absurd (omega arith)
    go (suc (suc (suc zero))) (suc zero) a b c d = refl
    go (suc (suc (suc zero))) (suc (suc zero)) a b c d = refl
    go (suc (suc (suc zero))) (suc (suc (suc zero))) a b c d = refl
    go (suc (suc (suc zero))) (suc (suc (suc (suc q)))) a b c d = absurd (omega arith)
    go (suc (suc (suc (suc r)))) (suc q) a b c d = absurd (omega arith)

-- BRBTS_EL1 reads the time of the last freeze, and a performed write of another register leaves it.
pub brbts_read : (s : State) (list : List Record) (r value : ℕ)
    → (register_value s list (meant s 4) ≡ s.brbts) × ((register_written s r value).brbts ≡ s.brbts)
unfolding register_value register_written
brbts_read s list r value = (go (is_redirected s), refl)
  where
    go : (t : Bool) → register_value s list (cond (t && false) 2 4) ≡ s.brbts
    go true = refl
    go false = refl

-- BRBIDR0_EL1 reads 0x5000 plus the size, which is at most 64.
pub brbidr0_read : (s : State) (list : List Record) → s.size ≤ 64 → register_value s list 0 ≡ 0x5000 + s.size
unfolding register_value
brbidr0_read s list h = omega arith
