-- The line of a refusal: the word, the number in decimal, and its end, one behind another.
use Prim.Native.Nat.{ℕ, ◌+◌, ◌≤◌}
use mathlib.Core.Path.{◌≡◌}
use mathlib.Core.List.{List, [], ◌∷◌, ◌++◌}
use native.Mathlib.Omega.{arith}
use lib.ListN.{length, length-append}
use Rattle.text.specs.Text.{bytes_of_text, decimal}
use Rattle.number.specs.Number.{written_if, count_if}
use Rattle.number.proofs.Written.{Wrote, wrote, wrote_more}
use Rattle.text.proofs.Laws.{length-decimal}
use Rattle.answer.specs.declared.Answer.TheVariants.{Refused}
use Rattle.line.specs.Line.{line_of}
use Rattle.line.proofs.Laws.{length_line}
use Rattle.line.proofs.refused_line.Goals as goal

-- Where the longest line has room: the word, the number behind it, and the line's end behind both.
module _ (out : List ℕ) (at n : ℕ) (room : at + 32 ≤ length out) where
  word : {out' : List ℕ} {p : ℕ} → p ≡ count_if out at (bytes_of_text "refused ") → out' ≡ written_if out at (bytes_of_text "refused ")
      → Wrote out at (bytes_of_text "refused ") p out'
  word = wrote out at (bytes_of_text "refused ") (omega arith)

  number : {out' out'' : List ℕ} {p q : ℕ} → p ≡ count_if out at (bytes_of_text "refused ") → out' ≡ written_if out at (bytes_of_text "refused ")
      → q ≡ count_if out' (at + p) (decimal n)
      → out'' ≡ written_if out' (at + p) (decimal n)
      → Wrote out at (bytes_of_text "refused " ++ decimal n) (p + q) out''
  number v o = wrote_more (decimal n) (word v o) (omega (arith, length-decimal n))

  ended : {out' out'' : List ℕ} {p q : ℕ} → Wrote out at (bytes_of_text "refused " ++ decimal n) p out' → q ≡ count_if out' (at + p) (10 ∷ [])
      → out'' ≡ written_if out' (at + p) (10 ∷ [])
      → Wrote out at (line_of (Refused n)) (p + q) out''
  unfolding line_of
  ended w = wrote_more (10 ∷ []) w (simp length-append (omega (arith, length-decimal n)))

  -- Word and number end where the line's end fits behind them.
  fits : {out' : List ℕ} {p : ℕ} → Wrote out at (bytes_of_text "refused " ++ decimal n) p out' → p ≤ 28
  fits w = omega (arith, simp length-append at w.counted, length-decimal n)

pub overflow_add-at : goal.overflow_add-at
overflow_add-at c =
    omega (arith, (word c.args.out.now c.args.at c.args.n c.requires c.write_text-word.ensures.value c.write_text-word.ensures.out_after).counted)

pub overflow_add-used : goal.overflow_add-used
overflow_add-used c =
    let a = c.args in
    omega (arith, fits a.out.now a.at a.n c.requires (number a.out.now a.at a.n c.requires c.write_text-word.ensures.value c.write_text-word.ensures.out_after c.write_decimal.ensures.value c.write_decimal.ensures.out_after))

pub overflow_add-at-2 : goal.overflow_add-at-2
overflow_add-at-2 c =
    let a = c.args in
    omega (arith, fits a.out.now a.at a.n c.requires (number a.out.now a.at a.n c.requires c.write_text-word.ensures.value c.write_text-word.ensures.out_after c.write_decimal.ensures.value c.write_decimal.ensures.out_after))

pub overflow_add-result : goal.overflow_add-result
overflow_add-result c =
    let a = c.args in
    let line = ended a.out.now a.at a.n c.requires (number a.out.now a.at a.n c.requires c.write_text-word.ensures.value c.write_text-word.ensures.out_after c.write_decimal.ensures.value c.write_decimal.ensures.out_after) c.write_text.ensures.value c.write_text.ensures.out_after in
    omega (arith, line.counted, length_line (Refused a.n))

pub returns-clause-value : goal.returns-clause-value
returns-clause-value c =
    let a = c.args in
    (ended a.out.now a.at a.n c.requires (number a.out.now a.at a.n c.requires c.write_text-word.ensures.value c.write_text-word.ensures.out_after c.write_decimal.ensures.value c.write_decimal.ensures.out_after) c.write_text.ensures.value c.write_text.ensures.out_after).counted

pub returns-clause-out_after : goal.returns-clause-out_after
returns-clause-out_after c =
    let a = c.args in
    (ended a.out.now a.at a.n c.requires (number a.out.now a.at a.n c.requires c.write_text-word.ensures.value c.write_text-word.ensures.out_after c.write_decimal.ensures.value c.write_decimal.ensures.out_after) c.write_text.ensures.value c.write_text.ensures.out_after).content
