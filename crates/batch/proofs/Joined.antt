-- Two batches are the batch of the two runs joined, where the first ends well; and what a run that ends well holds is stepped whole.
use Prim.Native.Nat.{ℕ, zero, suc, ◌+◌, ◌-◌, ◌≤◌}
use native.Mathlib.Omega.{arith}
use mathlib.Core.Path.{◌≡◌, refl, ap, ◌∙◌}
use mathlib.Core.Bool.{Bool, true, false, cond}
use mathlib.Core.List.{List, [], ◌∷◌, ◌++◌, map, append_assoc}
use lib.Dec.{leb}
use lib.ListN.{length, drop, length-drop, length-append}
use lib.Seq.{drop-append-le, drop_at}
use Rattle.answer.specs.declared.Answer.{Answer}
use Rattle.recorder.specs.Result.{Result, together}
use Rattle.recording.specs.declared.Numbers.{Numbers}
use Rattle.recording.specs.Recording.{Reading}
use Rattle.number.proofs.Laws.{Bytes}
use Rattle.recording.specs.Recording.{operation_at, operation_bytes}
use Rattle.recording.specs.Operations.{Holds, ends, reads}
use Rattle.recording.proofs.Laws.{what_was_read, read_written_operation}
use Rattle.recording.proofs.Window.{moved_reading, operation_moved, end_moved}
use Rattle.recording.specs.Run.{then_on, read_from, readings}
use Rattle.batch.specs.Batch.{step_of_read, in_front, steps}
use Rattle.recording.proofs.Run.{left, all_left, none_left, one_left}
use Rattle.std.proofs.Common.{Ok, Err}

-- ---- bytes in front of a run, and bytes behind an operation

-- The bytes before a place only move what is read from there on.
read_moved : (k : ℕ) (bytes : List ℕ) (d at : ℕ) → read_from k bytes (d + at) ≡ map (moved_reading d) (read_from k (drop d bytes) at)
unfolding read_from
read_moved zero bytes d at = refl
read_moved (suc k) bytes d at =
    rw (end_moved (length bytes) at d, ← length-drop d bytes, operation_moved bytes d at)
    (go (leb (length (drop d bytes)) at) (operation_at (drop d bytes) at) (read_moved k bytes d))
  where
    go : (t : Bool) (r : Reading) → ((next : ℕ) → read_from k bytes (d + next) ≡ map (moved_reading d) (read_from k (drop d bytes) next))
        → cond t [] (then_on (read_from k bytes) (moved_reading d r)) ≡ map (moved_reading d) (cond t [] (then_on (read_from k (drop d bytes)) r))
    go true r rest = refl
    go false (Ok (x, next)) rest = ap (λ (list : List Reading). Ok (x, d + next) ∷ list) (rest next)
    go false (Err d) rest = refl

-- ... and no step looks at a place.
steps_moved : (d : ℕ) (list : List Reading) (words room : List ℕ) → steps (map (moved_reading d) list) words room ≡ steps list words room
unfolding steps
steps_moved d [] words room = refl
steps_moved d (Ok (x, next) ∷ list) words room =
    let one = step_of_read (Ok (x, next)) words room in ap (in_front one.answer) (steps_moved d list one.state one.room)
steps_moved d (Err b ∷ list) words room =
    let one = step_of_read (Err b) words room in ap (in_front one.answer) (steps_moved d list one.state one.room)

-- An operation that is read whole is read so with more bytes behind it.
read_again : (a b : List ℕ) (at : ℕ) (x : Numbers) (next : ℕ) → Bytes a → operation_at a at ≡ Ok (x, next)
    → operation_at (a ++ b) at ≡ Ok (x, next)
read_again a b at x next h e =
    let r = what_was_read a at x next h e in
    let from : drop at (a ++ b) ≡ operation_bytes x ++ (drop next a ++ b) =
    drop-append-le at a b (omega (arith, r.further, r.within)) ∙ ap (λ (l : List ℕ). l ++ b) r.bytes ∙ append_assoc (operation_bytes x) (drop next a) b
    in
    read_written_operation (a ++ b) at x (drop next a ++ b) r.again from ∙ rw (← r.own, ← r.place)

-- ---- what two runs hold

module _ (a b : List ℕ) (bytes : Bytes a) where
  -- Behind the operations of the first stands what the second holds.
  both_left : {at : ℕ} {list : List Numbers} → at ≤ length a → Holds a at list
      → left (a ++ b) at ≡ left a at ++ map (moved_reading (length a)) (readings b)
  unfolding readings
  both_left {at} l (ends past) =
      let here : at ≡ length a + 0 = omega arith in
      let size : length (a ++ b) - at ≡ length b = omega (arith, length-append a b) in
      let second : drop (length a) (a ++ b) ≡ b = drop_at a b (length a) refl in
      rw (none_left a at past, size) (ap (read_from (length b) (a ++ b)) here ∙ read_moved (length b) (a ++ b) (length a) 0 ∙ rw second)
  both_left {at} l (reads {next = next} {x = x} e rest) =
      let r = what_was_read a at x next bytes e in
      let more = length-append a b in
      rw (one_left (a ++ b) at (omega (arith, r.further, r.within)), one_left a at (omega (arith, r.further, r.within)), read_again a b at x next bytes e, e)
      (ap (λ (list : List Reading). Ok (x, next) ∷ list) (both_left r.within rest))

  both : {list : List Numbers} → Holds a 0 list → readings (a ++ b) ≡ readings a ++ map (moved_reading (length a)) (readings b)
  both h = rw (← all_left (a ++ b), ← all_left a) (both_left (omega arith) h)

-- ---- and what their steps come to

-- Steps, and then those of what is read next: the answers one behind the other.
abbrev pub and_then : Result (List Answer) (List ℕ) → List Reading → Result (List Answer) (List ℕ)
and_then one list =
    let two = steps list one.state one.room in together (one.answer ++ two.answer) two.state two.room

pub one_then_other : (list more : List Reading) (words room : List ℕ) → steps (list ++ more) words room ≡ and_then (steps list words room) more
unfolding steps
one_then_other [] more words room = refl
one_then_other (x ∷ list) more words room =
    let one = step_of_read x words room in ap (in_front one.answer) (one_then_other list more one.state one.room)

-- The steps of a joined run are those of the first, and then those of the second.
pub joined : (a b words room : List ℕ) {list : List Numbers} → Bytes a → Holds a 0 list
    → steps (readings (a ++ b)) words room ≡ and_then (steps (readings a) words room) (readings b)
joined a b words room h holds =
    let one = steps (readings a) words room in
    let same = steps_moved (length a) (readings b) one.state one.room in
    rw (both a b h holds, one_then_other (readings a) (map (moved_reading (length a)) (readings b)) words room, same)
