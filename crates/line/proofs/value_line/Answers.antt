-- The line of a read: sixteen digits, and its end behind them.
use Prim.Native.Nat.{ℕ, ◌+◌, ◌≤◌}
use mathlib.Core.Path.{◌≡◌}
use mathlib.Core.List.{List, [], ◌∷◌}
use native.Mathlib.Omega.{arith}
use lib.ListN.{length}
use Rattle.text.specs.Text.{digits}
use Rattle.number.specs.Number.{written_if, count_if}
use Rattle.number.proofs.Written.{Wrote, wrote, wrote_more}
use Rattle.text.proofs.Laws.{length_digits}
use Rattle.answer.specs.declared.Answer.TheVariants.{Value}
use Rattle.line.specs.Line.{line_of}
use Rattle.line.proofs.Laws.{length_line}
use Rattle.line.proofs.value_line.Goals as goal

-- Where the longest line has room: the digits, and the line with its end behind them.
module _ (out : List ℕ) (at v : ℕ) (room : at + 32 ≤ length out) {out' : List ℕ} {p : ℕ} (count : p ≡ count_if out at (digits 16 16 v)) (after : out' ≡ written_if out at (digits 16 16 v)) where
  shown : Wrote out at (digits 16 16 v) p out'
  shown = wrote out at (digits 16 16 v) (omega (arith, length_digits 16 16 v)) count after

  ended : {out'' : List ℕ} {q : ℕ} → q ≡ count_if out' (at + p) (10 ∷ []) → out'' ≡ written_if out' (at + p) (10 ∷ [])
      → Wrote out at (line_of (Value v)) (p + q) out''
  unfolding line_of
  ended = wrote_more (10 ∷ []) shown (omega (arith, length_digits 16 16 v))

pub overflow_add-at : goal.overflow_add-at
overflow_add-at c =
    let a = c.args in
    let w = c.write_hexadecimal-digits.ensures in
    omega (arith, (shown a.out.now a.at a.v c.requires w.value w.out_after).counted, length_digits 16 16 a.v)

pub overflow_add-result : goal.overflow_add-result
overflow_add-result c =
    let a = c.args in
    let w = c.write_hexadecimal-digits.ensures in
    let line = ended a.out.now a.at a.v c.requires w.value w.out_after c.write_text.ensures.value c.write_text.ensures.out_after in
    omega (arith, line.counted, length_line (Value a.v))

pub returns-clause-value : goal.returns-clause-value
returns-clause-value c =
    let a = c.args in
    let w = c.write_hexadecimal-digits.ensures in
    (ended a.out.now a.at a.v c.requires w.value w.out_after c.write_text.ensures.value c.write_text.ensures.out_after).counted

pub returns-clause-out_after : goal.returns-clause-out_after
returns-clause-out_after c =
    let a = c.args in
    let w = c.write_hexadecimal-digits.ensures in
    (ended a.out.now a.at a.v c.requires w.value w.out_after c.write_text.ensures.value c.write_text.ensures.out_after).content
