-- Written and read back are the same: what `brb_recording_write` wrote, `brb_recording_read` gives back from there, and the bytes elsewhere
-- are as they were.
use Prim.Native.Nat.{ℕ, ◌+◌, ◌^◌, ◌≤◌, ◌<◌}
use native.Mathlib.Omega.{arith}
use mathlib.Core.Path.{◌≡◌, refl, sym, ap, ◌∙◌}
use mathlib.Core.List.{List, [], ◌∷◌, ◌++◌, append_assoc}
use lib.ListN.{length, take, drop, replicate, length-append}
use lib.Seq.{length-take-le, take_at, drop_at}
use borrow.Author.Tests.{lt-ltb, le-ltb, lt-leb, le-leb}
use Rattle.answer.specs.Answer.{returned}
use Rattle.number.specs.Number.{number_in, number_at, bytes_in, bytes_of, written, written_if}
use Rattle.operation.specs.Operation.{last_code}
use Rattle.recording.specs.declared.Numbers.{Numbers}
use Rattle.recording.specs.Recording.{field_count, numbers, numbers_at, operation_at, bytes_of_all, operation_bytes, writing_of, written_operation}
use Rattle.recording.specs.Operations.{as_read, stored_numbers}
use Rattle.recording.proofs.Laws.{writable, read_written_operation}
use Rattle.brb.specs.Recordings.{read_into, read_result}
use Rattle.face.proofs.Refuses.{Fits, above, short, fits, fitted}

-- Six numbers of 64 bits each.
pub record Small (x : Numbers) : Type 0 where
  pub cycles : x.cycles < 2 ^ 64
  pub a : x.a < 2 ^ 64
  pub b : x.b < 2 ^ 64
  pub c : x.c < 2 ^ 64
  pub d : x.d < 2 ^ 64

-- What is so after the writer wrote n bytes: the reader gives the operation back, with 0 for the numbers beyond its own fields, and answers the
-- position after it; and the bytes before and behind are as they were.
pub record ReadBack (x : Numbers) (at n : ℕ) (out after place : List ℕ) : Type 0 where
  pub reads : read_result after at place ≡ read_into (record { number = 0; value = at + n }) (stored_numbers (as_read x) place)
  pub before : take at after ≡ take at out
  pub behind : drop (at + n) after ≡ drop (at + n) out

module _ (x : Numbers) (at : ℕ) (out place : List ℕ) (small : Small x) (enough : 6 ≤ length place) where
  wrote : x.code ≤ last_code → at + length (operation_bytes x) ≤ length out
      → ReadBack x at (length (operation_bytes x)) out (written out at (operation_bytes x)) place
  unfolding read_result
  wrote known room =
      let front : length (take at out) ≡ at = length-take-le at out (omega arith) in
      let past : List ℕ = drop (at + length (operation_bytes x)) out in
      let from : drop at (written out at (operation_bytes x)) ≡ operation_bytes x ++ past = drop_at (take at out) (operation_bytes x ++ past) at front in
      let found = read_written_operation (written out at (operation_bytes x)) at x past (writable x known small.cycles small.a small.b small.c small.d) from in
      record {
        reads = rw (le-ltb (length place) 6 enough, found);
        before = take_at (take at out) (operation_bytes x ++ past) at front;
        behind = ap (drop (at + length (operation_bytes x))) (sym (append_assoc (take at out) (operation_bytes x) past)) ∙ drop_at (take at out ++ operation_bytes x) past (at + length (operation_bytes x)) (length-append (take at out) (operation_bytes x) ∙ rw front);
      }

-- What `brb_recording_write` wrote, `brb_recording_read` gives back from there, and the bytes elsewhere are as they were.
pub written_is_read : (x : Numbers) (at : ℕ) (out place : List ℕ) → Small x → 6 ≤ length place → (returned (writing_of x at out)).number ≡ 0
    → ReadBack x at (returned (writing_of x at out)).value out (written_operation x at out) place
unfolding writing_of written_operation written_if
written_is_read x at out place small enough done = go (fitted x at out) done
  where
    size : ℕ
    size = at + length (operation_bytes x)

    go : Fits x at out → (returned (writing_of x at out)).number ≡ 0
        → ReadBack x at (returned (writing_of x at out)).value out (written_operation x at out) place
    go (above h) e = absurd (omega (arith, rw (lt-ltb last_code x.code h) at e))
    go (short known h) e = absurd (omega (arith, rw (le-ltb last_code x.code known, lt-leb size (length out) h) at e))
    go (fits known h) e =
        rw (le-ltb last_code x.code known, le-leb size (length out) h) (wrote x at out place small enough known h)

-- Closed: a branch with two numbers of two bytes, at position 1 of ten bytes, and what is read there.
abbrev branch : Numbers
branch = numbers 1 300 8 1 4112 4096

pub closed_round_trip : (returned (writing_of branch 1 (replicate 10 9)) ≡ record { number = 0; value = 9 })
    × (written_operation branch 1 (replicate 10 9) ≡ 9 ∷ 1 ∷ 172 ∷ 2 ∷ 8 ∷ 1 ∷ 144 ∷ 32 ∷ 128 ∷ 32 ∷ [])
    × (read_result (written_operation branch 1 (replicate 10 9)) 1 (replicate 7 9)
    ≡ read_into (record { number = 0; value = 10 }) (1 ∷ 300 ∷ 8 ∷ 1 ∷ 4112 ∷ 4096 ∷ 9 ∷ []))
unfolding writing_of written_operation written_if operation_bytes bytes_of_all bytes_of bytes_in field_count read_result operation_at numbers_at number_at number_in stored_numbers
closed_round_trip = (refl, refl, refl)
