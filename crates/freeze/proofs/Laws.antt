-- When an overflow freezes, in document 02's words; what it leaves; and the difference of a count and an offset.
use Rattle.std.proofs.Common.{◌≡◌, ℕ, ◌-◌, ◌^◌, ◌<◌, ◌≤◌, Bool, true, false, cond, not, ◌&&◌, ◌||◌, ◌≢◌, ◌↔◌, refl, arith, eq-eqb, ne_eqb}
use Rattle.bits.specs.Bits.{part}
use Rattle.bits.proofs.Cases.{never}
use Rattle.bits.proofs.Each.{each}
use Rattle.state.specs.declared.State.{State}
use Rattle.state.specs.Named.{counting, PAUSED, is_halted, debug_state, side, frozen_at}
use Rattle.region.specs.Region.{prohibited}
use Rattle.region.proofs.Laws.{in_debug_state_lem}
use Rattle.freeze.specs.Freeze.{FZP, freezes, TS, difference, time, overflowed}

-- The group's control is 1, the level is not prohibited, the processor is not halted, and PAUSED is 0.
pub record Freezes (s : State) (group : ℕ) : Type 0 where
  pub control : FZP s group ≡ true
  pub level_open : prohibited s s.level ≡ false
  pub not_halted : is_halted s ≡ false
  pub not_paused : PAUSED s ≡ false

-- A side that is not prohibited is the level of a processor that is not halted.
level_side : (s : State) → prohibited s (side s) ≡ false → (prohibited s s.level ≡ false) × (is_halted s ≡ false)
level_side s = go (is_halted s)
  where
    go : (halted : Bool) → prohibited s (cond halted debug_state s.level) ≡ false → (prohibited s s.level ≡ false) × (halted ≡ false)
    go true h = never (cc (in_debug_state_lem s))
    go false h = (h, refl)

-- An overflow freezes exactly where all four hold.
pub freezes_exactly : (s : State) (group : ℕ) → freezes s group ≡ true ↔ Freezes s group
unfolding freezes
freezes_exactly s group = (
  λ h.
      let shown : prohibited s (side s) ≡ false = search each in
      let (level, halted) = level_side s shown in
      record { control = search each; level_open = level; not_halted = halted; not_paused = search each },
  λ f. rw (f.control, f.not_halted, f.level_open, f.not_paused),
)

-- BRBCR_EL2's TS chooses the time, or BRBCR_EL1's where it is 0.
pub which_ts : (s : State)
    → (part 6 5 s.brbcr2 ≢ 0 → TS s ≡ part 6 5 s.brbcr2) × (part 6 5 s.brbcr2 ≡ 0 → TS s ≡ part 6 5 s.brbcr1)
which_ts s = (λ h. rw (ne_eqb (part 6 5 s.brbcr2) 0 h), λ h. rw (eq-eqb (part 6 5 s.brbcr2) 0 h))

-- The difference of numbers of 64 bits: where the offset is not above the count it is that of the numbers, else 2^64 is added to it.
pub not_wrapped : (count offset : ℕ) → count < 2 ^ 64 → offset ≤ count → difference count offset ≡ count - offset
not_wrapped count offset small low = omega arith

pub wrapped : (count offset : ℕ) → offset < 2 ^ 64 → count < offset → difference count offset ≡ 2 ^ 64 - (offset - count)
wrapped count offset small high = omega arith

module _ (s : State) (group physical virtual_offset guest_offset : ℕ) where
  abbrev after : State
  after = overflowed s group physical virtual_offset guest_offset

  abbrev now : ℕ
  now = time s physical virtual_offset guest_offset

  pub size_stays : after.size ≡ s.size
  unfolding overflowed
  size_stays = go (freezes s group)
    where
      go : (t : Bool) → (cond t (frozen_at now s) s).size ≡ s.size
      go true = refl
      go false = refl

  pub counting_stays : counting after ≡ counting s
  unfolding overflowed
  counting_stays = go (freezes s group)
    where
      go : (t : Bool) → counting (cond t (frozen_at now s) s) ≡ counting s
      go true = refl
      go false = refl

  -- No overflow clears PAUSED: what freezes was not paused, and what does not changes nothing.
  pub never_cleared : PAUSED s && not (PAUSED after) ≡ false
  unfolding overflowed freezes
  never_cleared = go (FZP s group) (prohibited s (side s)) (PAUSED s) refl
    where
      go : (wanted hidden paused : Bool) → PAUSED s ≡ paused → paused && not (PAUSED (cond (wanted && not hidden && not paused) (frozen_at now s) s)) ≡ false
      go true true true e = rw e
      go true true false e = refl
      go true false true e = rw e
      go true false false e = refl
      go false hidden true e = rw e
      go false hidden false e = refl

  -- Neither of the two occasions that a change of registers can be.
  pub no_occasion : not (counting s) && counting after || PAUSED s && not (PAUSED after) ≡ false
  no_occasion = rw (counting_stays, never_cleared) (unset (counting s))
    where
      unset : (t : Bool) → not t && t || false ≡ false
      unset true = refl
      unset false = refl
