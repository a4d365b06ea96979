-- The sum of a run of counts, by their encodings: both ends. Document 02, "Four"; docs/MANUAL.md, "The spread of a count".
use Rattle.std.specs.Prelude.{ℕ, ◌+◌, ◌-◌, ◌^◌, Bool, true, cond, ◌&&◌, not, List, [], ◌∷◌, eqb, ltb}
use Rattle.count.specs.declared.Spread.{Spread}
use Rattle.count.specs.Count.{decoded, from_to, at_least, refused_with, spread_of}

-- One end of each spread, added up without bound.
unfoldable pub added : (Spread → ℕ) → List ℕ → ℕ
added end [] = 0
added end (cc ∷ run) = end (spread_of (decoded cc)) + added end run

-- Every spread of the run is such a one.
unfoldable pub every : (Spread → Bool) → List ℕ → Bool
every is [] = true
every is (cc ∷ run) = is (spread_of (decoded cc)) && every is run

-- The smallest counts of a run, added up. One that exceeded the counter is at least 1,048,576.
abbrev pub low_sum : List ℕ → ℕ
low_sum run = added (λ s. s.low) run

-- The largest counts of a run, added up: the upper end of its sum, where every one of them has an upper end.
abbrev pub high_sum : List ℕ → ℕ
high_sum run = added (λ s. s.high) run

-- Every encoding of the run is in its list: decoding refuses none of them.
abbrev pub all_listed : List ℕ → Bool
all_listed run = every (λ s. eqb s.number 0) run

-- Every count of the run has an upper end: none exceeded the counter.
abbrev pub all_bounded : List ℕ → Bool
all_bounded run = every (λ s. eqb s.bounded 1) run

-- The largest number of 64 bits.
abbrev pub largest_number : ℕ
largest_number = 2 ^ 64 - 1

-- What is answered of two sums, by whether there is an upper end. A sum that would be answered and passes the largest number is
-- refusal 9.
unfoldable pub sum_of : ℕ → ℕ → Bool → Spread
sum_of low high bounded =
    cond (ltb largest_number low) (refused_with 9)
    (cond (not bounded) (at_least low) (cond (ltb largest_number high) (refused_with 9) (from_to low high)))

-- The sum of a run: 4 where one of its encodings is outside the list, wherever it stands; else what its two sums answer.
unfoldable pub summed : List ℕ → Spread
summed run = cond (not (all_listed run)) (refused_with 4) (sum_of (low_sum run) (high_sum run) (all_bounded run))
