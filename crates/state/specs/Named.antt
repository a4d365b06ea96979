-- The bits of P and of the control registers by name, and the states that document 01 names: "Operations"; document 02, Five, Six
-- and Seven; docs/MANUAL.md, "The platform word P", "Registers", "Halts and resumes", "Freezes" and "State and room".
use Rattle.std.specs.Prelude.{ℕ, Bool, cond, ◌&&◌, ◌||◌, List, [], ◌∷◌, eqb}
use Rattle.bits.specs.Bits.{is_set, part, with_bit}
use Rattle.state.specs.declared.State.{State}
use Rattle.state.specs.declared.Running.{Running}
use Rattle.state.specs.Parts.{state_of, with_number}

-- P bit 0: SCR_EL3.NS. 0 is Secure state.
abbrev pub NS : State → Bool
NS s = is_set 0 s.p

-- P bit 1: SCR_EL3.EEL2.
abbrev pub EEL2 : State → Bool
EEL2 s = is_set 1 s.p

-- P bit 2: HCR_EL2.TGE.
abbrev pub TGE : State → Bool
TGE s = is_set 2 s.p

-- P bit 3: HCR_EL2.E2H.
abbrev pub E2H : State → Bool
E2H s = is_set 3 s.p

-- P bits 5:4: MDCR_EL3.SBRBE.
abbrev pub SBRBE : State → ℕ
SBRBE s = part 5 4 s.p

-- P bit 8: SCR_EL3.FGTEn, without which no n-bit traps.
abbrev pub FGTEn : State → Bool
FGTEn s = is_set 8 s.p

-- P bit 9: HDFGRTR_EL2.nBRBDATA, the n-bit of reading records and BRBTS_EL1. An n-bit that is 0 traps its accesses at EL1 to EL2, where EL2
-- is enabled and FGTEn is 1.
abbrev pub n_brbdata : State → Bool
n_brbdata s = is_set 9 s.p

-- P bit 10: HDFGRTR_EL2.nBRBCTL, the n-bit of reading control registers.
abbrev pub n_brbctl_read : State → Bool
n_brbctl_read s = is_set 10 s.p

-- P bit 11: HDFGWTR_EL2.nBRBCTL, the n-bit of writing control registers.
abbrev pub n_brbctl_write : State → Bool
n_brbctl_write s = is_set 11 s.p

-- P bit 12: HDFGRTR_EL2.nBRBIDR, the n-bit of BRBIDR0_EL1.
abbrev pub n_brbidr : State → Bool
n_brbidr s = is_set 12 s.p

-- P bit 13: HFGITR_EL2.nBRBIALL, the n-bit of BRB IALL.
abbrev pub n_brbiall : State → Bool
n_brbiall s = is_set 13 s.p

-- EL2 is enabled in the current Security state: always in Non-secure state, in Secure state by EEL2.
abbrev pub EL2Enabled : State → Bool
EL2Enabled s = NS s || EEL2 s

-- Self-hosted EL3 branch recording is enabled, on a processor that has it (v1p1). P bit 6 is what R_JWWFY makes of
-- MDCR_EL3.{E3BREC, E3BREW}: the host forms it.
abbrev pub el3_recording_enabled : State → Bool
el3_recording_enabled s = eqb s.v1p1 1 && is_set 6 s.p

-- Counting is on: bit 3 (CC) of BRBCR_EL1 and of BRBCR_EL2, also where EL2 is not enabled. R_MJDLC.
abbrev pub counting : State → Bool
counting s = is_set 3 s.brbcr1 && is_set 3 s.brbcr2

-- Mispredictions are shown: bit 4 (MPRED) of BRBCR_EL1 and of BRBCR_EL2, also where EL2 is not enabled. R_XHWRB.
abbrev pub prediction_shown : State → Bool
prediction_shown s = is_set 4 s.brbcr1 && is_set 4 s.brbcr2

-- BRBFCR_EL1 bit 7: no event is recorded.
abbrev pub PAUSED : State → Bool
PAUSED s = is_set 7 s.brbfcr

-- BRBFCR_EL1 bits 29:28: which 32 records the record registers show.
abbrev pub BANK : State → ℕ
BANK s = part 29 28 s.brbfcr

-- The processor is halted: it entered Debug state and did not leave it.
abbrev pub is_halted : State → Bool
is_halted s = eqb s.halted 1

-- Debug state as a side of an event; the other sides are the levels, 0 to 3.
abbrev pub debug_state : ℕ
debug_state = 4

-- The side at which an operation begins: Debug state while the processor is halted, else its level. (Document 02, Five.)
abbrev pub side : State → ℕ
side s = cond (is_halted s) debug_state s.level

-- The sizes that a reset can give: BRBIDR0_EL1.NUMREC.
abbrev pub sizes : List ℕ
sizes = 8 ∷ 16 ∷ 32 ∷ 64 ∷ []

-- The state that a host begins with: no number of it is set.
abbrev pub fresh : State
fresh = state_of []

-- The state with another level.
abbrev pub at_level : ℕ → State → State
at_level level s = with_number 0 level s

-- The state with another P.
abbrev pub with_platform : ℕ → State → State
with_platform p s = with_number 3 p s

-- The state with other control registers.
abbrev pub with_registers : ℕ → ℕ → ℕ → State → State
with_registers brbcr1 brbcr2 brbfcr s = with_number 4 brbcr1 (with_number 5 brbcr2 (with_number 6 brbfcr s))

-- The state with another running count.
abbrev pub with_running : Running → State → State
with_running r s = with_number 7 r.count (with_number 8 r.unknown s)

-- The state once the processor is halted: all else, the level too, stays.
abbrev pub in_debug_state : State → State
in_debug_state s = with_number 9 1 s

-- The state once the processor has left Debug state to a level.
abbrev pub resumed_at : ℕ → State → State
resumed_at level s = with_number 9 0 (at_level level s)

-- The state once it is frozen at a time: PAUSED is 1 and BRBTS_EL1 the time; all else, BRBFCR_EL1's other bits too, stays.
abbrev pub frozen_at : ℕ → State → State
frozen_at time s = with_number 6 (with_bit 7 s.brbfcr) (with_number 10 time s)

-- The state with another start.
abbrev pub with_start : ℕ → State → State
with_start start s = with_number 11 start s

-- The running count after a reset: 0, and the next count is unknown, since no record was made that it could run from.
abbrev pub running_after_reset : Running
running_after_reset = record { count = 0; unknown = 1 }

-- A reset: level 3 and not halted, its size and v1p1, 0 in P, in the three control registers, in BRBTS_EL1 and as the start, and the
-- running count after a reset. (House: on a processor a cold reset leaves much of this unknown.)
abbrev pub after_reset : ℕ → ℕ → State
after_reset size v1p1 = with_running running_after_reset (at_level 3 (with_number 1 size (with_number 2 v1p1 fresh)))
