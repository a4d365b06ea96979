-- Demand 3 as a host sees it: what `brb_count_sum` answers of the CC fields of a stretch are S and U, so that the time lies between its two
-- ends.
use Prim.Native.Nat.{ℕ, zero, suc, ◌+◌, ◌≤◌, ◌<◌}
use native.Mathlib.Omega.{arith}
use mathlib.Core.Path.{◌≡◌, refl, ap, ◌∙◌}
use mathlib.Core.Bool.{true}
use mathlib.Core.Logic.{⊎_elim}
use mathlib.Core.List.{List}
use lib.Dec.{eqb}
use lib.ListN.{length, get_or-eq_default}
use Rattle.bits.proofs.Cases.{never, below_or_not}
use Rattle.bits.proofs.Each.{each}
use Rattle.count.specs.declared.Decoded.{Decoded}
use Rattle.count.specs.declared.Decoded.TheVariants.{Known, Exceeded, Refused}
use Rattle.count.specs.declared.Spread.{Spread}
use Rattle.count.specs.Count.{decoded, from_to, spread_of}
use Rattle.sum.specs.Sum.{added, every, all_listed, all_bounded, summed}
use Rattle.sum.proofs.Laws.{never_nine}
use Rattle.room.specs.declared.Record.{Record}
use Rattle.room.specs.Room.{zero_record, numbered}
use Rattle.room.proofs.Laws.{length-records}
use Rattle.history.specs.History.{Timed, Machine, run, shown, FromReset, CC, is_known, is_counted, stretch, end_sum, S, U, encodings, Within, accepted_cycles}
use Rattle.history.specs.Events.{Between}
use Rattle.history.proofs.Notes.{zero_invalid}
use Rattle.history.proofs.Sound.{sound-run, sound_from, largest_size}
use Rattle.history.proofs.Exact.{ends_valid, demand_3_exact}

-- What the sum adds up is what S and U add up.
end_added : (end : Spread → ℕ) (list : List Record) (i n : ℕ) → added end (encodings list i n) ≡ end_sum end list i n
unfolding added encodings end_sum
end_added end list i zero = refl
end_added end list i (suc n) = ap (λ (k : ℕ). end (spread_of (decoded (CC (numbered i list)))) + k) (end_added end list (suc i) n)

how_many_lem : (list : List Record) (i n : ℕ) → length (encodings list i n) ≡ n
unfolding encodings
how_many_lem list i zero = refl
how_many_lem list i (suc n) = ap suc (how_many_lem list (suc i) n)

-- A known count is listed and has an upper end.
known_ends : (d : Decoded) → is_known d ≡ true → (eqb (spread_of d).number 0 ≡ true) × (eqb (spread_of d).bounded 1 ≡ true)
known_ends (Known low high) h = (refl, refl)
known_ends Exceeded h = never (cc)
known_ends Refused h = never (cc)

all_known : (list : List Record) (i n : ℕ) → stretch list i n ≡ true
    → (all_listed (encodings list i n) ≡ true) × (all_bounded (encodings list i n) ≡ true)
unfolding stretch encodings every
all_known list i zero h = (refl, refl)
all_known list i (suc n) h =
    let counted : is_counted (numbered i list) ≡ true = search each in
    let one = known_ends (decoded (CC (numbered i list))) (search each) in
    let others = all_known list (suc i) n (search each) in
    (rw (one.0, others.0), rw (one.1, others.1))

-- The sum of the CC fields of a stretch, which no buffer makes so long that it is refused.
pub stretch-summed : (list : List Record) (i n : ℕ) → length list ≤ 64 → stretch list i n ≡ true
    → summed (encodings list i n) ≡ from_to (S list i n) (U list i n)
unfolding numbered
stretch-summed list i n few h =
    let (newest, oldest) = ends_valid list i n h in
    let inside : i + n < length list = ⊎_elim (λ l. l) (λ (past : length list ≤ i + n). absurd (zero_invalid (get_or-eq_default list zero_record past) oldest)) (below_or_not (i + n) (length list)) in
    let (listed, bounded) = all_known list i n h in
    never_nine (encodings list i n) (omega (arith, how_many_lem list i n)) listed
    ∙ rw (bounded, end_added (λ x. x.low) list i n, end_added (λ x. x.high) list i n)

-- Demand 3 of what a host adds up: the sum is answered with both ends, and the cycles of the accepted operations after the oldest's event up
-- to and including the newest's are near the lower end and not above the upper one.
pub demand_3_summed : (m : Machine) (list : List Timed) → FromReset m list → (i n : ℕ) → stretch (shown (run m list)) i n ≡ true
    → (low : ℕ)
    × (high : ℕ)
    × (summed (encodings (shown (run m list)) i n) ≡ from_to low high)
    × (b : Between m list i n)
    × Within low high (accepted_cycles (run m b.before) b.middle)
demand_3_summed m list from i n h =
    let few : length (shown (run m list)) ≤ 64 = rw length-records (largest_size (run m list).state (sound-run m list (sound_from from))) in
    let (b, within) = demand_3_exact m list from i n h in
    (S (shown (run m list)) i n, U (shown (run m list)) i n, stretch-summed (shown (run m list)) i n few h, b, within)
