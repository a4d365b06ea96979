-- No byte, one that separates words, or a digit's place.
use Prim.Native.Nat.{ℕ, ◌<◌}
use mathlib.Core.Path.{◌≡◌, sym, ap, ◌∙◌}
use mathlib.Core.Bool.{false}
use mathlib.Core.List.{List}
use native.Mathlib.Omega.{arith}
use lib.ListN.{length, drop, get_or}
use Rattle.notation.specs.Words.{separating, word_in, prefixed, digits_of}
use Rattle.notation.specs.Places.{located}
use Rattle.notation.proofs.Words.{word_past, word_ends, word_goes}
use Rattle.notation.proofs.prefixed_at.Goals as goal

same : (s : List ℕ) (i : ℕ) → i < length s → separating (get_or s i 0) ≡ false → digits_of 16 0 (word_in (drop i s)) ≡ prefixed (word_in (drop i s))
same s i h e = rw (word_goes s i h e)

pub returns-then-bytes-at : goal.returns-then-bytes-at
returns-then-bytes-at c =
    let a = c.args in rw (word_past a.bytes.now a.at (omega arith))

pub returns-then-separates : goal.returns-then-separates
returns-then-separates c =
    let a = c.args in
    rw (word_ends a.bytes.now a.at (omega arith) (sym c.separates.ensures ∙ c.if-separates.true))

pub returns : goal.returns
returns c =
    let a = c.args in
    let s = a.bytes.now in
    c.digits_at.ensures
    ∙ ap (located (drop a.at s) a.at) (same s a.at (omega arith) (sym c.separates.ensures ∙ c.if-separates.false))
