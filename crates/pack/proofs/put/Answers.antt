-- The writer refuses neither the code nor the place, so that its answer is the number of bytes.
use Rattle.std.proofs.Common.{◌≡◌, ℕ, ◌+◌, ◌*◌, ◌≤◌, List, [], ◌∷◌, ◌++◌, length, take, drop, ◌∙◌, refl, arith, length-append, length-take, le-ltb, le-leb}
use Rattle.answer.specs.declared.Answer.{Answer}
use Rattle.answer.specs.declared.Answer.TheVariants.{Value}
use Rattle.std.proofs.lemmas.Grind.{common_steps}
use Rattle.number.specs.Number.{written, written_if}
use Rattle.number.proofs.Laws.{length_of}
use Rattle.operation.specs.Operation.{last_code}
use Rattle.recording.specs.declared.Numbers.{Numbers}
use Rattle.recording.specs.Recording.{field_count, bytes_of_all, own_numbers, operation_bytes, writing_of, written_operation}
use Rattle.pack.proofs.put.Goals as goal

all_size : (list : List ℕ) → length (bytes_of_all list) ≤ 10 * length list
unfolding bytes_of_all
all_size [] = omega arith
all_size (n ∷ list) = simp length-append (omega (arith, all_size list, length_of n))

operation_size : (x : Numbers) → length (operation_bytes x) ≤ 60
unfolding operation_bytes
operation_size x =
    omega (arith, all_size (x.code ∷ own_numbers x), length-take (field_count x.code) (x.a ∷ x.b ∷ x.c ∷ x.d ∷ []))

answers : (x : Numbers) (at : ℕ) (out : List ℕ) → x.code ≤ last_code → at + 60 ≤ length out
    → writing_of x at out ≡ Value (length (operation_bytes x))
unfolding writing_of
answers x at out k h =
    let size = operation_size x in
    rw (le-ltb last_code x.code k, le-leb (at + length (operation_bytes x)) (length out) (omega arith))

front : (b rest : List ℕ) → take (length b) (b ++ rest) ≡ b
front b rest = grind (arith, common_steps)

writes : (x : Numbers) (at : ℕ) (out : List ℕ) → x.code ≤ last_code → at + 60 ≤ length out
    → written_operation x at out ≡ written out at (operation_bytes x)
unfolding written_operation written_if
writes x at out k h =
    let size = operation_size x in
    rw (le-ltb last_code x.code k, le-leb (at + length (operation_bytes x)) (length out) (omega arith))

-- The answer's number.
counted : (x : Numbers) (at : ℕ) (out : List ℕ) (a : Answer) (n : ℕ) → x.code ≤ last_code → at + 60 ≤ length out → a ≡ writing_of x at out
    → a ≡ Value n
    → n ≡ length (operation_bytes x)
counted x at out a n k h e f = let same = answers x at out k h in let value : Value n ≡ Value (length (operation_bytes x)) = cc in cc

-- What was written into sixty bytes: the operation's own are in front.
record Wrote (x : Numbers) (n : ℕ) (after : List ℕ) : Type 0 where
  within : n ≤ length after
  size : n ≡ length (take n after)
  bytes : take n after ≡ operation_bytes x

wrote : (x : Numbers) (out after : List ℕ) (a : Answer) (n : ℕ) → x.code ≤ last_code → length out ≡ 60 → a ≡ writing_of x 0 out
    → after ≡ written_operation x 0 out
    → a ≡ Value n
    → Wrote x n after
wrote x out after a n k long e f is =
    let size = operation_size x in
    let count = counted x 0 out a n k (omega arith) e is in
    let content : after ≡ operation_bytes x ++ drop (0 + length (operation_bytes x)) out = f ∙ writes x 0 out k (omega arith) in
    record {
      within = rw (content, length-append, count) (omega arith);
      size = rw (content, count, front (operation_bytes x) (drop (0 + length (operation_bytes x)) out)) refl;
      bytes = rw (content, count) (front (operation_bytes x) (drop (0 + length (operation_bytes x)) out));
    }

pub slice_bounds-bytes-end : goal.slice_bounds-bytes-end
slice_bounds-bytes-end c =
    let e = c.write_operation.ensures in (wrote c.args.x _ _ _ _ c.requires.0 refl e.value e.out_after c.in-Value.is).within

pub slice_bounds-text-end : goal.slice_bounds-text-end
slice_bounds-text-end c =
    let e = c.write_operation.ensures in (wrote c.args.x _ _ _ _ c.requires.0 refl e.value e.out_after c.in-Value.is).size

pub returns-in-Value : goal.returns-in-Value
returns-in-Value c =
    let e = c.write_operation.ensures in
    (rw (wrote c.args.x _ _ _ _ c.requires.0 refl e.value e.out_after c.in-Value.is).bytes at c.text.ensures).held
    (omega (arith, operation_size c.args.x, c.requires.1))

-- It is no other answer.
pub returns-in_default : goal.returns-in_default
returns-in_default c =
    let e = c.write_operation.ensures in absurd (c.in_default.not-Value _ (e.value ∙ answers c.args.x 0 _ c.requires.0 (omega arith)))
