-- The state as its numbers, in the order in which a host lends them (house): 0 level, 1 size, 2 v1p1, 3 P, 4 BRBCR_EL1,
-- 5 BRBCR_EL2, 6 BRBFCR_EL1, 7 the running count, 8 whether the next count is unknown, 9 whether the processor is halted
-- (document 02, Five), 10 BRBTS_EL1 (document 02, Six), 11 the start, which is the place of record 0 in the room (document 02,
-- Seven). docs/MANUAL.md, "State and room".
use Rattle.std.specs.Prelude.{ℕ, zero, suc, List, [], ◌∷◌, get_or}
use Rattle.state.specs.declared.State.{State}

-- How many they are.
abbrev pub state_numbers : ℕ
state_numbers = 12

-- The state of these numbers; a number that is not there is taken as 0.
abbrev pub state_of : List ℕ → State
state_of w =
    let n : ℕ → ℕ = λ k. get_or w k 0 in
    record { level = n 0; size = n 1; v1p1 = n 2; p = n 3; brbcr1 = n 4; brbcr2 = n 5; brbfcr = n 6; running = record { count = n 7; unknown = n 8 }; halted = n 9; brbts = n 10; start = n 11 }

-- The numbers of a state.
abbrev pub words_of : State → List ℕ
words_of s =
    s.level ∷ s.size ∷ s.v1p1 ∷ s.p ∷ s.brbcr1 ∷ s.brbcr2 ∷ s.brbfcr ∷ s.running.count ∷ s.running.unknown ∷ s.halted ∷ s.brbts ∷ s.start ∷ []

-- A list with n at place k, counted from 0; past its end it is as it was.
abbrev pub replaced : ℕ → ℕ → List ℕ → List ℕ
replaced k n [] = []
replaced zero n (x ∷ list) = n ∷ list
replaced (suc k) n (x ∷ list) = x ∷ replaced k n list

-- The state with n as its number k: every part of it that changes does so by this.
abbrev pub with_number : ℕ → ℕ → State → State
with_number k n s = state_of (replaced k n (words_of s))
