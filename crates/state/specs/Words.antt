-- The state in lent numbers: document 01, refusal 7; docs/MANUAL.md, "State and room".
use Rattle.std.specs.Prelude.{ℕ, cond, List, ◌++◌, leb, length, drop}
use Rattle.state.specs.declared.State.{State}
use Rattle.state.specs.Parts.{state_numbers, state_of, words_of}
use Rattle.state.specs.Sound.{sound}
use Rattle.std.specs.Prelude.{Some, None, Option}

-- Lent numbers once the state is stored: those past the needed ones are as they were. Too few are left alone.
unfoldable pub stored : State → List ℕ → List ℕ
stored s w = cond (leb state_numbers (length w)) (words_of s ++ drop state_numbers w) w

-- A state, judged: held where it is sound.
unfoldable pub judged : State → Option State
judged s = cond (sound s) (Some s) None

-- The state that lent numbers hold, judged; too few hold none.
unfoldable pub loaded : List ℕ → Option State
loaded w = cond (leb state_numbers (length w)) (judged (state_of w)) None

-- What is done with the sound state, or with the number of the refusal where there is none: 7.
abbrev pub if_sound : {A : Type 0} → Option State → (State → A) → (ℕ → A) → A
if_sound (Some s) go refuse = go s
if_sound None go refuse = refuse 7
