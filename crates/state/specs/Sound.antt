-- Which states are sound: document 01, refusal 7; document 02, Five to Seven; docs/MANUAL.md, "State and room".
use Rattle.std.specs.Prelude.{ℕ, Bool, ◌&&◌, ◌||◌, not, ◌∷◌, leb, ltb, eqb}
use Rattle.bits.specs.Bits.{within, one_of}
use Rattle.state.specs.declared.State.{State}
use Rattle.state.specs.Named.{TGE, EL2Enabled, sizes}

-- The bits that P can have: 0 to 6 and 8 to 13.
abbrev pub platform_mask : ℕ
platform_mask = 0x3F7F

-- The bits that a write of BRBCR_EL1 or BRBCR_EL2 keeps: EXCEPTION, ERTN, FZP, TS, MPRED, CC and the two enabling bits.
abbrev pub control_mask : ℕ
control_mask = 0xC0017B

-- The bits that a write of BRBFCR_EL1 keeps: BANK, the six filter bits, EnI and PAUSED.
abbrev pub filter_mask : ℕ
filter_mask = 0x307F0080

-- Where the running count stops: one more than the counter's largest count.
abbrev pub cap : ℕ
cap = 1048576

-- A level that is not there: EL2 where it is not enabled, and EL1 where TGE is 1 and EL2 is enabled, since EL0 then has EL2
-- directly above it. No sound state is at such a level, and no event enters it.
unfoldable pub unavailable : State → ℕ → Bool
unavailable s level = eqb level 2 && not (EL2Enabled s) || eqb level 1 && TGE s && EL2Enabled s

-- The start is a place of the room: below the size; before the first reset, where the size is 0, it is 0. (Document 02, Seven.)
abbrev pub is_place : ℕ → ℕ → Bool
is_place size start = ltb start size || eqb start 0

-- Each number of the state is in its list, its level is there and its start is a place; BRBTS_EL1 can be any number. (That lent
-- numbers are too few to hold a state is refusal 7 too, and is said where they are loaded.)
unfoldable pub sound : State → Bool
sound s =
    leb s.level 3 && one_of (0 ∷ sizes) s.size && leb s.v1p1 1 && within platform_mask s.p
    && within control_mask s.brbcr1 && within control_mask s.brbcr2 && within filter_mask s.brbfcr
    && not (unavailable s s.level) && leb s.running.count cap && leb s.running.unknown 1 && leb s.halted 1
    && is_place s.size s.start
