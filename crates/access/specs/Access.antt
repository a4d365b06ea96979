-- Accesses to registers, and BRB IALL: document 01, "Operations" (the registers) and "Access outcomes"; docs/MANUAL.md,
-- "Registers" and "Access outcomes"; document 02, Six; the access pseudocode of BRBCR_EL1, BRBCR_EL2, BRBINF<n>_EL1 and BRBIDR0_EL1.
use Rattle.std.specs.Prelude.{ℕ, ◌+◌, ◌*◌, ◌/◌, ◌%◌, Bool, true, false, cond, ◌&&◌, ◌||◌, not, eqb, leb, List}
use Rattle.std.specs.Int.Bits.{bit_and}
use Rattle.bits.specs.Bits.{put}
use Rattle.answer.specs.declared.Answer.{Answer}
use Rattle.answer.specs.declared.Answer.TheVariants.{Done, Undefined, Trap2, Trap3}
use Rattle.state.specs.declared.State.{State}
use Rattle.state.specs.Named.{NS, E2H, SBRBE, FGTEn, n_brbdata, n_brbctl_read, n_brbctl_write, n_brbidr, n_brbiall, EL2Enabled, BANK, with_registers}
use Rattle.state.specs.Sound.{control_mask, filter_mask}
use Rattle.room.specs.declared.Record.{Record}
use Rattle.room.specs.Room.{numbered}

-- The registers of records, 32 of each kind: BRBINF from 32, BRBSRC from 64, BRBTGT from 96.
abbrev pub is_record_register : ℕ → Bool
is_record_register r = leb 32 r && leb r 127

-- The registers that there are: those that `register_value` names first, and those of records.
abbrev pub is_register : ℕ → Bool
is_register r = leb r 4 || is_record_register r

-- The n-bit of P that an access to the register looks at: a record's, which BRBTS_EL1 has too, BRBIDR0_EL1's, or the control
-- registers', which reading and writing have apart. (BRBCR_EL2 is undefined at EL1, where alone an n-bit counts.)
unfoldable pub n_bit : State → Bool → ℕ → Bool
n_bit s writing r =
    cond (is_record_register r || eqb r 4) (n_brbdata s) (cond (eqb r 0) (n_brbidr s) (cond writing (n_brbctl_write s) (n_brbctl_read s)))

-- An access traps to EL2: at EL1, with EL2 enabled and its traps on (FGTEn), where the n-bit is 0.
unfoldable pub trapped2 : State → Bool → Bool
trapped2 s nbit = eqb s.level 1 && EL2Enabled s && FGTEn s && not nbit

-- An access traps to EL3: at EL1 and EL2, in Secure state by every SBRBE but 3, in Non-secure state by 0 and 2.
abbrev pub trapped3 : State → Bool
trapped3 s =
    (eqb s.level 1 || eqb s.level 2)
    && (not (NS s) && not (eqb (SBRBE s) 3) || NS s && (eqb (SBRBE s) 0 || eqb (SBRBE s) 2))

-- How an access ends, in the order of the pseudocode: undefined at EL0, or where the access itself is; trapped to EL2; trapped
-- to EL3; else it is performed, which is answered as done. At EL3 nothing traps.
unfoldable pub outcome : State → Bool → Bool → Answer
outcome s undefined nbit =
    cond (eqb s.level 0 || undefined) Undefined (cond (trapped2 s nbit) Trap2 (cond (trapped3 s) Trap3 Done))

-- BRBCR_EL2 is undefined at EL1.
abbrev pub undefined_at_el1 : State → ℕ → Bool
undefined_at_el1 s r = eqb s.level 1 && eqb r 2

-- How a read ends.
unfoldable pub read_outcome : State → ℕ → Answer
read_outcome s r = outcome s (undefined_at_el1 s r) (n_bit s false r)

-- The registers that cannot be written: BRBIDR0_EL1, BRBTS_EL1 (house) and those of records.
abbrev pub read_only : ℕ → Bool
read_only r = eqb r 0 || eqb r 4 || is_record_register r

-- How a write ends. To write a register that cannot be written is undefined at every level.
unfoldable pub write_outcome : State → ℕ → Answer
write_outcome s r = outcome s (read_only r || undefined_at_el1 s r) (n_bit s true r)

-- How BRB IALL ends: as an access that has an n-bit of its own and is never undefined but at EL0.
unfoldable pub iall_outcome : State → Answer
iall_outcome s = outcome s false (n_brbiall s)

-- The register that is meant: at EL2 with E2H 1 the name BRBCR_EL1 stands for BRBCR_EL2.
abbrev pub meant : State → ℕ → ℕ
meant s r = cond (eqb s.level 2 && E2H s && eqb r 1) 2 r

-- The record that a record register with the number m (r less 32, 64 or 96) shows: m + 32 × BANK. The list has as many records
-- as the size, so past it a zero record is shown.
unfoldable pub shown_record : State → List Record → ℕ → Record
shown_record s list r = numbered (r % 32 + 32 * BANK s) list

-- Which of the record's three numbers a record register shows.
unfoldable pub shown_number : State → List Record → ℕ → ℕ
shown_number s list r =
    cond (eqb (r / 32) 1) (shown_record s list r).inf
    (cond (eqb (r / 32) 2) (shown_record s list r).source (shown_record s list r).target)

-- BRBIDR0_EL1: CC 0b0101 (a counter of 20 bits), FORMAT 0, NUMREC the size, which its eight bits hold whole.
abbrev pub BRBIDR0 : State → ℕ
BRBIDR0 s = put 15 12 5 + put 11 8 0 + put 7 0 s.size

-- What a performed read of a register shows: 0 is BRBIDR0_EL1, 1 BRBCR_EL1, 2 BRBCR_EL2, 3 BRBFCR_EL1, 4 BRBTS_EL1.
unfoldable pub register_value : State → List Record → ℕ → ℕ
register_value s list r =
    cond (eqb r 0) (BRBIDR0 s)
    (cond (eqb r 1) s.brbcr1
    (cond (eqb r 2) s.brbcr2 (cond (eqb r 3) s.brbfcr (cond (eqb r 4) s.brbts (shown_number s list r)))))

-- The state after a performed write of a register, which keeps only the register's own bits.
unfoldable pub register_written : State → ℕ → ℕ → State
register_written s r value =
    let control = bit_and value control_mask in
    with_registers (cond (eqb r 1) control s.brbcr1) (cond (eqb r 2) control s.brbcr2) (cond (eqb r 3) (bit_and value filter_mask) s.brbfcr) s
