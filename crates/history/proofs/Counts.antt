-- How many operations of a run do something: of parts of the run, of one more operation, and where none does.
use Prim.Native.Nat.{ℕ, ◌+◌}
use native.Mathlib.Omega.{arith}
use mathlib.Core.Path.{◌≡◌, refl}
use mathlib.Core.Bool.{Bool, true, false, cond}
use mathlib.Core.List.{List, [], ◌∷◌, ◌++◌}
use Rattle.history.specs.History.{Timed, Machine, stepped, run}
use Rattle.history.specs.Events.{how_many}

-- A run of two parts is the run of the second from where the first ends.
pub run_parts : (m : Machine) (before after : List Timed) → run m (before ++ after) ≡ run (run m before) after
unfolding run
run_parts m [] after = refl
run_parts m (t ∷ before) after = run_parts (stepped m t) before after

module _ (does : Machine → Timed → Bool) where
  pub in_parts : (m : Machine) (before after : List Timed) → how_many does m (before ++ after) ≡ how_many does m before + how_many does (run m before) after
  unfolding how_many run
  in_parts m [] after = omega arith
  in_parts m (t ∷ before) after = omega (arith, in_parts (stepped m t) before after)

  pub one_more : (m : Machine) (list : List Timed) (t : Timed)
      → how_many does m (list ++ (t ∷ [])) ≡ how_many does m list + cond (does (run m list) t) 1 0
  unfolding how_many
  one_more m list t = omega (arith, in_parts m list (t ∷ []))

-- Where none does, the first does not, and none of the others.
pub none_does : (b : Bool) (n : ℕ) → cond b 1 0 + n ≡ 0 → (b ≡ false) × (n ≡ 0)
none_does true n h = absurd (omega arith)
none_does false n h = (refl, omega arith)
