-- Where recording is prohibited: document 01, section of that name; document 02, Five; docs/MANUAL.md, the same; Arm D19.1.4
-- and BranchRecordAllowed.
use Rattle.std.specs.Prelude.{ℕ, Bool, cond, ◌&&◌, ◌||◌, not, eqb}
use Rattle.bits.specs.Bits.{is_set}
use Rattle.state.specs.declared.State.{State}
use Rattle.state.specs.Named.{NS, TGE, SBRBE, EL2Enabled, el3_recording_enabled, debug_state}

-- The bit that enables a level below EL3: E2BRE for EL2 (R_SFZQD), E1BRE for EL1 (R_YPHYG), and for EL0 (R_DBPCP)
-- BRBCR_EL2.E0HBRE where TGE is 1 and EL2 enabled, so that EL2 and not EL1 governs EL0, else BRBCR_EL1.E0BRE.
unfoldable pub enabled : State → ℕ → Bool
enabled s level =
    cond (eqb level 2) (is_set 1 s.brbcr2)
    (cond (eqb level 1) (is_set 1 s.brbcr1)
    (cond (TGE s && EL2Enabled s) (is_set 0 s.brbcr2) (is_set 0 s.brbcr1)))

-- SBRBE prohibits every level below EL3: 0 in both Security states, 1 in Secure state. R_SFZQD, R_YPHYG, R_DBPCP.
abbrev pub prohibited_by_sbrbe : State → Bool
prohibited_by_sbrbe s = eqb (SBRBE s) 0 || eqb (SBRBE s) 1 && not (NS s)

-- Recording is prohibited at a side of an event, which is a level or Debug state: in Debug state always (R_LPYBQ); at EL3 where
-- it is not enabled (R_GLKGW); below where SBRBE prohibits it or the level's enabling bit is 0.
unfoldable pub prohibited : State → ℕ → Bool
prohibited s side =
    eqb side debug_state || cond (eqb side 3) (not (el3_recording_enabled s)) (prohibited_by_sbrbe s || not (enabled s side))
