-- Freezes on a counter's overflow, and their time: document 02, Six; docs/MANUAL.md, "Freezes"; FZP and TS on BRBCR_EL2's page.
use Rattle.std.specs.Prelude.{ℕ, ◌+◌, ◌-◌, ◌%◌, ◌^◌, Bool, cond, not, ◌&&◌, ◌==◌}
use Rattle.bits.specs.Bits.{is_set, part}
use Rattle.state.specs.declared.State.{State}
use Rattle.state.specs.Named.{PAUSED, side, frozen_at}
use Rattle.region.specs.Region.{prohibited}

-- The control of a counter's group, bit 8: of BRBCR_EL1 for group 0, of BRBCR_EL2 for group 1 (house).
abbrev pub FZP : State → ℕ → Bool
FZP s group = cond (group == 0) (is_set 8 s.brbcr1) (is_set 8 s.brbcr2)

-- An overflow freezes (house): its group's control is 1; recording is not prohibited at the side where the processor is, and Debug
-- state is a side where it always is; and recording is not paused.
unfoldable pub freezes : State → ℕ → Bool
freezes s group = FZP s group && not (prohibited s (side s)) && not (PAUSED s)

-- Which time is kept: bits 6:5 of BRBCR_EL2, or those of BRBCR_EL1 where they are 0.
abbrev pub TS : State → ℕ
TS s = cond (part 6 5 s.brbcr2 == 0) (part 6 5 s.brbcr1) (part 6 5 s.brbcr2)

-- A count less an offset, both of 64 bits, as a counter of 64 bits has it: modulo 2^64.
abbrev pub difference : ℕ → ℕ → ℕ
difference count offset = (count + 2 ^ 64 - offset) % 2 ^ 64

-- The time, by TS: 1 virtual, 2 a guest's physical, 3 physical; 0 where both registers have 0.
unfoldable pub time : State → ℕ → ℕ → ℕ → ℕ
time s physical virtual_offset guest_offset =
    cond (TS s == 1) (difference physical virtual_offset)
    (cond (TS s == 2) (difference physical guest_offset)
    (cond (TS s == 3) physical 0))

-- The state after an overflow: frozen at its time, or as it was.
unfoldable pub overflowed : State → ℕ → ℕ → ℕ → ℕ → State
overflowed s group physical virtual_offset guest_offset =
    cond (freezes s group) (frozen_at (time s physical virtual_offset guest_offset) s) s
