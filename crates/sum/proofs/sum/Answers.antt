-- What is left of the run and the sums so far are those of all of it (`Left`): each turn adds both ends of one encoding. Assumes nothing.
use Prim.Native.Nat.{ℕ, suc, ◌+◌}
use mathlib.Core.Path.{◌≡◌, ap, ◌∙◌}
use mathlib.Core.List.{List}
use native.Mathlib.Omega.{arith}
use lib.ListN.{get_or}
use Rattle.std.proofs.lemmas.List.{get_or-take, get_or-drop}
use Rattle.count.specs.declared.Spread.{Spread}
use Rattle.count.specs.declared.Decoded.{Decoded}
use Rattle.count.specs.Count.{decoded, refused_with, spread_of}
use Rattle.sum.proofs.Left.{begins, turned, outside, ended}
use Rattle.sum.proofs.sum.Goals as goal

-- The spread of the encoding that a turn reads, which is the run's at that turn's place.
read : {one : Spread} {d : Decoded} {cc : ℕ} (run : List ℕ) (i : ℕ) → one ≡ spread_of d → d ≡ decoded cc → cc ≡ get_or run i 0
    → one ≡ spread_of (decoded (get_or run i 0))
read run i e h same = rw (e, h, same)

pub loop-cc-init : goal.loop-cc-init
loop-cc-init c =
    begins _ (omega arith)

pub returns-then-one-ne0 : goal.returns-then-one-ne0
returns-then-one-ne0 c =
    let is = read c.args.run.now c.loop-cc.cc-index c.spread-one.ensures c.decode.ensures (grind (arith, get_or-take, get_or-drop)) in
    c.refused.ensures ∙ ap refused_with c.number.ensures
    ∙ outside c.args.run.now c.loop-cc.cc-index c.loop-cc.low c.loop-cc.high c.loop-cc.bounded c.loop-cc.invariant (omega arith)
    (rw is at c.if-one-ne0.true)

pub loop-cc-preserved : goal.loop-cc-preserved
loop-cc-preserved c =
    let is = read c.args.run.now c.loop-cc.cc-index c.spread-one.ensures c.decode.ensures (grind (arith, get_or-take, get_or-drop)) in
    let up : c.loop-cc.cc-index + 1 ≡ suc c.loop-cc.cc-index = omega arith in
    rw (up, c.plus-low.ensures, c.plus-high.ensures, is)
    (turned c.args.run.now c.loop-cc.cc-index c.loop-cc.low c.loop-cc.high c.loop-cc.bounded c.loop-cc.invariant (omega arith)
    (rw is at c.if-one-ne0.false))

pub returns : goal.returns
returns c =
    c.both_ends.ensures
    ∙ ended c.args.run.now c.loop-cc.cc-index c.loop-cc.low c.loop-cc.high c.loop-cc.bounded c.loop-cc.invariant (omega arith)
