-- What the notes say of times and counts, and that valid records are the noted ones: each fact by the effect that keeps it.
use Prim.Native.Nat.{ℕ, zero, suc, ◌+◌, ◌-◌, ◌≤◌, ◌<◌, min}
use native.Mathlib.Omega.{arith}
use mathlib.Core.Path.{◌≡◌, refl, ap, ◌∙◌}
use mathlib.Core.Bool.{Bool, true, false, cond}
use mathlib.Core.Logic.{⊎_elim}
use mathlib.Core.List.{List, [], ◌∷◌}
use lib.ListN.{take, replicate, length-take, get_or-eq_default}
use lib.Seq.{get_or-take}
use borrow.Author.Tests.{eqb-true}
use Rattle.bits.proofs.Cases.{below_or_not}
use Rattle.count.specs.declared.Decoded.TheVariants.{Known}
use Rattle.count.specs.Count.{largest_count, encoded, smallest_of, largest_of, decoded, spread_of}
use Rattle.count.proofs.Laws.{encoded_fits, above, decoded-exceeded, rounding}
use Rattle.state.specs.Sound.{cap}
use Rattle.state.specs.declared.State.{State}
use Rattle.state.specs.declared.Running.{Running}
use Rattle.room.specs.declared.Record.{Record}
use Rattle.room.specs.Room.{zero_record, numbered}
use Rattle.event.specs.declared.Event.{Event}
use Rattle.event.specs.Event.{packed, count_unknown, BRBINF, record_of}
use Rattle.history.specs.History.{Note, note, CCU, CC, is_valid, is_known, is_counted, spread, Within}
use Rattle.bits.proofs.Each.{each}

-- ---- one record

counted : (r : Record) → is_counted r ≡ true → (CCU r ≡ 0) × (is_known (decoded (CC r)) ≡ true)
counted r h = (eqb-true (CCU r) 0 (search each), search each)

-- The record's count, if it is counted, is n.
abbrev pub Takes : ℕ → Record → Type 0
Takes n r = is_counted r ≡ true → CC r ≡ encoded n

taken : (r : Record) (u : Bool) (n kind level mpred valid : ℕ)
    → r.inf ≡ packed (cond u 1 0) (cond u 0 (encoded n)) kind level mpred valid → Takes n r
taken r true n kind level mpred valid e h = omega (arith, (counted r h).0)
taken r false n kind level mpred valid e h = omega (arith, encoded_fits n)

pub takes : (s : State) (r : Running) (e : Event) → Takes r.count (record_of s r e)
unfolding record_of BRBINF
takes s r e = taken (record_of s r e) (count_unknown s r) r.count _ _ _ _ refl

-- Where the count is the exact difference d but for its cap, d is near a counted record's count and not above its upper end.
within_taken : (r : Record) (n d : ℕ) → Takes n r → n ≡ min d cap → is_counted r ≡ true → Within (spread r).low (spread r).high d
within_taken r n d t e h =
    let same : CC r ≡ encoded n = t h in
    let known : is_known (decoded (CC r)) ≡ true = (counted r h).1 in
    ⊎_elim
    (λ (g : largest_count < n). let z : ◌≡◌ {A = ℕ} 0 1 = cc (ap is_known (ap decoded (same ∙ above n g) ∙ decoded-exceeded)) in absurd (omega arith))
    (λ (g : n ≤ largest_count).
    let (low, high, is, from, to, near) = rounding n g in
    let ends : spread r ≡ spread_of (Known low high) = ap spread_of (ap decoded same ∙ is) in
    rw ends (record { near = omega arith; under = omega arith }))
    (below_or_not largest_count n)

-- ---- times

-- The times fall along the notes, none is past the clock, the running count is the time since the newest but for its cap,
-- and of each counted record the difference to the next older time is near the count and not above its upper end.
pub record Timely (clock running : ℕ) (notes : List Note) : Type 0 where
  pub behind : (note 0 notes).time ≤ clock
  pub exact : running ≡ min (clock - (note 0 notes).time) cap
  pub falling : (i : ℕ) → (note (suc i) notes).time ≤ (note i notes).time
  pub within : (i : ℕ) → is_counted (note i notes).made ≡ true
      → Within (spread (note i notes).made).low (spread (note i notes).made).high ((note i notes).time - (note (suc i) notes).time)

pub waited : {clock running : ℕ} {notes : List Note} (cycles : ℕ) → Timely clock running notes → Timely (clock + cycles) (min (running + cycles) cap) notes
waited cycles t = record { behind = omega arith; exact = omega arith; falling = t.falling; within = t.within }

pub began : Timely 0 0 []
unfolding decoded smallest_of largest_of
began = record { behind = omega arith; exact = refl; falling = λ i. omega arith; within = λ i _. record { near = omega arith; under = omega arith } }

pub made : {now running : ℕ} {notes : List Note} {new : Record} → Takes running new → Timely now running notes
    → Timely now 0 (record { time = now; made = new } ∷ notes)
made {now} {running} {notes} {new} takes t = record { behind = omega arith; exact = omega arith; falling = falling; within = within }
  where
    all : List Note
    all = record { time = now; made = new } ∷ notes

    falling : (i : ℕ) → (note i notes).time ≤ (note i all).time
    falling zero = t.behind
    falling (suc i) = t.falling i

    within : (i : ℕ) → is_counted (note i all).made ≡ true
        → Within (spread (note i all).made).low (spread (note i all).made).high ((note i all).time - (note i notes).time)
    within zero = within_taken new running (now - (note 0 notes).time) takes t.exact
    within (suc i) = t.within i

-- ---- places

-- Each valid record of the list is the one noted at its number.
abbrev pub Held : List Record → List Note → Type 0
Held list notes = (i : ℕ) → is_valid (numbered i list) ≡ true → numbered i list ≡ (note i notes).made

pub zero_invalid : {r : Record} → r ≡ zero_record → is_valid r ≡ true → ⊥
zero_invalid e v = let z : ◌≡◌ {A = ℕ} 0 1 = cc in omega arith

pub numbered_zeros : (n i : ℕ) → numbered i (replicate n zero_record) ≡ zero_record
unfolding numbered
numbered_zeros zero i = refl
numbered_zeros (suc n) zero = refl
numbered_zeros (suc n) (suc i) = numbered_zeros n i

pub held_cleared : (n : ℕ) (notes : List Note) → Held (replicate n zero_record) notes
held_cleared n notes i v = absurd (zero_invalid (numbered_zeros n i) v)

-- A record behind a new one is the one that had the number before; past the end there is none.
pub moved_up : (list : List Record) (n i : ℕ) (new : Record) → is_valid (numbered (suc i) (new ∷ take n list)) ≡ true
    → numbered (suc i) (new ∷ take n list) ≡ numbered i list
unfolding numbered
moved_up list n i new v =
    ⊎_elim (λ (g : i < n). get_or-take n list i zero_record g)
    (λ (g : n ≤ i). absurd (zero_invalid (get_or-eq_default (take n list) zero_record (simp length-take (omega arith))) v)) (below_or_not i n)

pub held_pushed : (list : List Record) (notes : List Note) (n now : ℕ) (new : Record) → Held list notes
    → Held (new ∷ take n list) (record { time = now; made = new } ∷ notes)
unfolding numbered
held_pushed list notes n now new h zero v = refl
held_pushed list notes n now new h (suc i) v = let e = moved_up list n i new v in e ∙ h i (rw e at v)
