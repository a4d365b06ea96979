-- An answer as its two numbers, one behind the other.
use Prim.Native.Nat.{ℕ, ◌+◌, ◌≤◌}
use native.Mathlib.Numerals.{add-one}
use mathlib.Core.Path.{◌≡◌}
use mathlib.Core.List.{List, [], ◌∷◌}
use lib.ListN.{length, set}
use Rattle.answer.specs.Answer.{returned}
use Rattle.number.specs.Number.{written}
use Rattle.number.proofs.Laws.{sets_written}
use Rattle.batch.specs.Batch.{in_numbers}
use Rattle.batch.proofs.put.Goals as goal

two : (out : List ℕ) (at n v : ℕ) → at + 2 ≤ length out → set (set out at n) (at + 1) v ≡ written out at (n ∷ v ∷ [])
two out at n v h = rw add-one (sets_written out at (n ∷ v ∷ []) h)

pub returns : goal.returns
unfolding in_numbers
returns c =
    let a = c.args in
    rw (c.number.ensures, c.value.ensures) (two a.answers.now a.place (returned a.answer).number (returned a.answer).value c.requires)
