-- The line of an answer, as defined: each arm knows its answer, and what it writes is that answer's line.
use Prim.Native.Nat.{ℕ, ◌+◌, ◌≤◌}
use mathlib.Core.Path.{◌≡◌, sym}
use mathlib.Core.List.{List}
use native.Mathlib.Omega.{arith}
use lib.ListN.{length}
use Rattle.text.specs.Text.{bytes_of_text}
use Rattle.number.proofs.Written.{wrote, written-nothing}
use Rattle.number.specs.Number.{written, written_if, count_if}
use Rattle.line.specs.Line.{line_of}
use Rattle.line.proofs.line_at.Goals as goal

-- A text of at most 32 bytes that was written where 32 have room.
whole : {out' : List ℕ} {count : ℕ} (out : List ℕ) (at : ℕ) (text : List ℕ) → length text ≤ 32 → at + 32 ≤ length out → count ≡ count_if out at text
    → out' ≡ written_if out at text → (count ≡ length text) × (out' ≡ written out at text)
whole out at text short enough c o = let w = wrote out at text (omega arith) c o in (w.counted, w.content)

pub returns-in-Done-clause-value : goal.returns-in-Done-clause-value
unfolding line_of
returns-in-Done-clause-value c =
    rw c.in-Done.is

pub returns-in-Done-clause-out_after : goal.returns-in-Done-clause-out_after
unfolding line_of
returns-in-Done-clause-out_after c =
    rw c.in-Done.is (sym (written-nothing c.args.out.now c.args.at))

pub returns-in-Undefined-clause-value : goal.returns-in-Undefined-clause-value
unfolding line_of
returns-in-Undefined-clause-value c =
    let a = c.args in rw c.in-Undefined.is (whole a.out.now a.at (bytes_of_text "undefined\n") (omega arith) (omega arith) c.write_text.ensures.value c.write_text.ensures.out_after).0

pub returns-in-Undefined-clause-out_after : goal.returns-in-Undefined-clause-out_after
unfolding line_of
returns-in-Undefined-clause-out_after c =
    let a = c.args in rw c.in-Undefined.is (whole a.out.now a.at (bytes_of_text "undefined\n") (omega arith) (omega arith) c.write_text.ensures.value c.write_text.ensures.out_after).1

pub returns-in-Trap2-clause-value : goal.returns-in-Trap2-clause-value
unfolding line_of
returns-in-Trap2-clause-value c =
    let a = c.args in rw c.in-Trap2.is (whole a.out.now a.at (bytes_of_text "trap2\n") (omega arith) (omega arith) c.write_text-in-Trap2.ensures.value c.write_text-in-Trap2.ensures.out_after).0

pub returns-in-Trap2-clause-out_after : goal.returns-in-Trap2-clause-out_after
unfolding line_of
returns-in-Trap2-clause-out_after c =
    let a = c.args in rw c.in-Trap2.is (whole a.out.now a.at (bytes_of_text "trap2\n") (omega arith) (omega arith) c.write_text-in-Trap2.ensures.value c.write_text-in-Trap2.ensures.out_after).1

pub returns-in-Trap3-clause-value : goal.returns-in-Trap3-clause-value
unfolding line_of
returns-in-Trap3-clause-value c =
    let a = c.args in rw c.in-Trap3.is (whole a.out.now a.at (bytes_of_text "trap3\n") (omega arith) (omega arith) c.write_text-in-Trap3.ensures.value c.write_text-in-Trap3.ensures.out_after).0

pub returns-in-Trap3-clause-out_after : goal.returns-in-Trap3-clause-out_after
unfolding line_of
returns-in-Trap3-clause-out_after c =
    let a = c.args in rw c.in-Trap3.is (whole a.out.now a.at (bytes_of_text "trap3\n") (omega arith) (omega arith) c.write_text-in-Trap3.ensures.value c.write_text-in-Trap3.ensures.out_after).1
