-- What it means to refuse in an order, without computing, and what is answered where nothing is refused.
use Rattle.std.specs.Prelude.{ℕ, ◌≢◌, Bool, true, false, List, [], ◌∷◌}

-- n is the number of the first line whose condition holds, or 0 where none does.
pub data First : List (ℕ × Bool) → ℕ → Type 0 where
  -- the first line's condition holds
  here : {n : ℕ} {lines : List (ℕ × Bool)} → First ((n, true) ∷ lines) n
  -- it does not hold, and n is that of the first of the others
  later : {n m : ℕ} {lines : List (ℕ × Bool)} → First lines n → First ((m, false) ∷ lines) n
  -- no condition holds
  none : First [] 0

-- The number of an accepted operation: 0, and where an access was not performed 100 (undefined), 102 (trapped to EL2) or 103
-- (trapped to EL3).
pub data Accepted : ℕ → Type 0 where
  done : Accepted 0
  undefined : Accepted 100
  trap2 : Accepted 102
  trap3 : Accepted 103

-- The number that is answered by some lines: that of the first whose condition holds; where none does, an accepted operation's.
pub data AnswersBy (lines : List (ℕ × Bool)) : ℕ → Type 0 where
  refuses : {n : ℕ} → First lines n → n ≢ 0 → AnswersBy lines n
  accepts : {n : ℕ} → First lines 0 → Accepted n → AnswersBy lines n
