-- What a function answers, the state that it leaves, and the numbers that it leaves in the room: a promise on all three is
-- one equation.
use Rattle.std.specs.Prelude.{ℕ, List}

-- A result: the answer as an Answer or as its two numbers, the state as a State or as the lent numbers that hold it.
pub record Result (A S : Type 0) : Type 0 where
  pub answer : A
  pub state : S
  pub room : List ℕ

-- An answer, a state and a room as a result.
abbrev pub together : {A S : Type 0} → A → S → List ℕ → Result A S
together answer state room = record { answer = answer; state = state; room = room }
