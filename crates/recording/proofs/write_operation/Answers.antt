-- Writing an operation, as defined: each way out knows the refusal, and the bytes are those of the operation's own numbers.
use Prim.Native.Nat.{ℕ, ◌+◌, ◌≤◌, ◌<◌}
use mathlib.Core.Path.{◌≡◌, ap, ◌∙◌}
use mathlib.Core.List.{List, [], ◌∷◌}
use native.Mathlib.Numerals.{add-two}
use Rattle.std.proofs.Common.{rules}
use native.Mathlib.Omega.{arith}
use borrow.Author.Tests.{lt-ltb, le-ltb, lt-leb, le-leb}
use lib.ListN.{length, take}
use Rattle.answer.specs.declared.Answer.TheVariants.{Value, Refused}
use Rattle.number.specs.Number.{written, written_if}
use Rattle.operation.specs.Operation.{last_code}
use Rattle.recording.specs.declared.Numbers.{Numbers}
use Rattle.recording.specs.Recording.{field_count, bytes_of_all, operation_bytes, writing_of, written_operation}
use Rattle.recording.proofs.write_operation.Goals as goal

-- The first numbers of the list are the operation's own
own_bytes : (x : Numbers) (count : ℕ) → count ≡ field_count x.code
    → bytes_of_all (take (count + 2) (x.code ∷ x.cycles ∷ x.a ∷ x.b ∷ x.c ∷ x.d ∷ [])) ≡ operation_bytes x
unfolding operation_bytes
own_bytes x count e = rw (e, add-two)

-- What was counted of the first numbers is the length of the operation's bytes.
counted : (x : Numbers) (count size : ℕ) → count ≡ field_count x.code
    → size ≡ length (bytes_of_all (take (count + 2) (x.code ∷ x.cycles ∷ x.a ∷ x.b ∷ x.c ∷ x.d ∷ [])))
    → size ≡ length (operation_bytes x)
counted x count size e h = h ∙ ap length (own_bytes x count e)

-- The answers of an operation whose code is known, by whether it has room.
module _ (x : Numbers) (at : ℕ) (out : List ℕ) (size : ℕ) (known : x.code ≤ last_code) (e : size ≡ length (operation_bytes x)) where
  no_place : length out < at + size → (Refused 6 ≡ writing_of x at out) × (out ≡ written_operation x at out)
  unfolding writing_of written_operation written_if
  no_place h =
      let no = lt-leb (at + length (operation_bytes x)) (length out) (rw e at h) in let code = le-ltb last_code x.code known in (rw (code, no), rw (code, no))

  a_place : at + size ≤ length out → (Value size ≡ writing_of x at out) × (written out at (operation_bytes x) ≡ written_operation x at out)
  unfolding writing_of written_operation written_if
  a_place h =
      let yes = le-leb (at + length (operation_bytes x)) (length out) (rw e at h) in
      let code = le-ltb last_code x.code known in (rw (code, yes) (ap Value e), rw (code, yes))

pub returns-then-x-gt-LAST_CODE-clause-value : goal.returns-then-x-gt-LAST_CODE-clause-value
unfolding writing_of
returns-then-x-gt-LAST_CODE-clause-value c =
    let e = lt-ltb last_code c.args.x.code (omega arith) in rw e c.into.ensures

pub returns-then-x-gt-LAST_CODE-clause-out_after : goal.returns-then-x-gt-LAST_CODE-clause-out_after
unfolding written_operation
returns-then-x-gt-LAST_CODE-clause-out_after c = let e = lt-ltb last_code c.args.x.code (omega arith) in rw e

pub returns-then-not-has_room-clause-value : goal.returns-then-not-has_room-clause-value
returns-then-not-has_room-clause-value c =
    let a = c.args in
    let n = c.numbers_length-size in
    let size = counted a.x c.field_count.result n.result c.field_count.ensures.0 n.ensures.0 in
    c.into-then-not-has_room.ensures ∙ (no_place a.x a.at a.out.now n.result (omega arith) size (search rules)).0

pub returns-then-not-has_room-clause-out_after : goal.returns-then-not-has_room-clause-out_after
returns-then-not-has_room-clause-out_after c =
    let a = c.args in
    let n = c.numbers_length-size in
    let size = counted a.x c.field_count.result n.result c.field_count.ensures.0 n.ensures.0 in
    (no_place a.x a.at a.out.now n.result (omega arith) size (search rules)).1

pub returns-clause-value : goal.returns-clause-value
returns-clause-value c =
    let a = c.args in
    let n = c.numbers_length-size in
    let size = counted a.x c.field_count.result n.result c.field_count.ensures.0 n.ensures.0 in
    (a_place a.x a.at a.out.now n.result (omega arith) size (search rules)).0

pub returns-clause-out_after : goal.returns-clause-out_after
returns-clause-out_after c =
    let a = c.args in
    let n = c.numbers_length-size in
    let f = c.field_count in
    let size = counted a.x f.result n.result f.ensures.0 n.ensures.0 in
    c.write_numbers.ensures
    ∙ ap (written a.out.now a.at) (own_bytes a.x f.result f.ensures.0)
    ∙ (a_place a.x a.at a.out.now n.result (omega arith) size (search rules)).1
