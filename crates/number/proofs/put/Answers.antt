-- `number::put` meets its contract. The loop's invariant: what is left, stored from here on, is the whole of n stored
-- from its place on. Assumes nothing.
use Prim.Native.Nat.{ℕ, ◌<◌}
use mathlib.Core.Path.{◌≡◌, refl, ap, ◌∙◌}
use native.Mathlib.Numerals.{add-one}
use native.Mathlib.Omega.{arith}
use mathlib.Core.List.{List}
use lib.ListN.{length, set, length-set}
use lib.Seq.{sets}
use Rattle.number.specs.Number.{bytes_of}
use Rattle.number.proofs.Laws.{last_of, more_of_lem, length_of, one_byte, several_bytes, sets_written}
use Rattle.number.proofs.put.Goals as goal
use Rattle.number.proofs.put.Goals.{After-loop-i}

pub overflow_sub-last : goal.overflow_sub-last
overflow_sub-last c =
    omega (arith, length_of c.args.n)

pub loop-i-init : goal.loop-i-init
loop-i-init c =
    (omega arith, omega (arith, length_of c.args.n), refl, refl)

pub loop-i-preserved : goal.loop-i-preserved
loop-i-preserved c =
    let l = c.loop-i in
    let e = more_of_lem l.left (several_bytes l.left (omega arith)) (omega arith) in (
      omega arith,
      omega (arith, ap length e),
      simp length-set (omega arith),
      rw add-one (rw e at l.invariant.3),
    )

-- One byte is left, at the last place
small : (c : After-loop-i) → c.loop-i.left < 128
small c =
    one_byte c.loop-i.left (omega arith) (omega arith)

pub overflow_cast-out-2 : goal.overflow_cast-out-2
overflow_cast-out-2 c =
    omega (arith, small c)

pub bounds-out-last : goal.bounds-out-last
bounds-out-last c =
    omega (arith, length_of c.args.n)

-- The last byte, stored at the last place
last_stored : {last : ℕ} {whole : List ℕ} (out : List ℕ) (i left : ℕ) → left < 128 → i ≡ last → sets out i (bytes_of left) ≡ whole → set out last left ≡ whole
last_stored out i left h e w =
    rw (last_of left h, e) at w

pub returns : goal.returns
returns c =
    let a = c.args in
    let l = c.loop-i in
    last_stored l.out l.i l.left (small c) (omega arith) l.invariant.3 ∙ sets_written a.out.now a.at (bytes_of a.n) (omega arith)
