-- Numbers written. The loop's invariant: the numbers from here on, written from here on, make the whole.
use mathlib.Core.Path.{◌≡◌, sym, ◌∙◌}
use mathlib.Core.List.{[]}
use native.Mathlib.Omega.{arith}
use native.Mathlib.Nat.{add-zero}
use lib.ListN.{drop, take-append-drop, drop_of_length-le}
use Rattle.recording.specs.Recording.{bytes_of_all}
use Rattle.recording.proofs.Several.{next-written}
use Rattle.recording.proofs.write_numbers.Goals as goal

pub overflow_add-place : goal.overflow_add-place
overflow_add-place c =
    let l = c.loop-n in
    let w = c.write_number-place in
    omega (arith, next-written c.args.list.now l.n-index (omega arith) l.out l.place w.result w.new.out (omega arith) w.ensures.value w.ensures.out_after)

pub loop-n-preserved : goal.loop-n-preserved
loop-n-preserved c =
    let l = c.loop-n in
    let w = c.write_number-place in
    let (room, content) = next-written c.args.list.now l.n-index (omega arith) l.out l.place w.result w.new.out (omega arith) w.ensures.value w.ensures.out_after in
    (omega arith, omega arith, content ∙ l.invariant.2)

pub returns : goal.returns
unfolding bytes_of_all
returns c =
    let l = c.loop-n in
    let none : drop l.n-index c.args.list.now ≡ [] = drop_of_length-le c.args.list.now (omega arith) in
    sym (take-append-drop l.place l.out) ∙ sym (rw add-zero) ∙ rw none at l.invariant.2
