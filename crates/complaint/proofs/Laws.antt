-- Carriage returns among bytes, one byte after another.
use Prim.Native.Nat.{ℕ, ◌+◌, ◌≤◌, ◌<◌}
use mathlib.Core.Path.{◌≡◌}
use mathlib.Core.Bool.{Bool, true, false, cond, ◌&&◌, not}
use mathlib.Core.List.{List}
use lib.Dec.{eqb}
use lib.ListN.{length, drop, get_or, drop_of_length-le}
use Rattle.std.proofs.lemmas.List.{drop_more}
use Rattle.complaint.specs.Returns.{lone_return}

module _ (bytes : List ℕ) (i : ℕ) (after : Bool) where
  -- With one more byte: it shows such a return, or what is left does.
  pub with_byte : i < length bytes
      → lone_return after (drop i bytes) ≡ cond (after && not (eqb (get_or bytes i 0) 10)) true (lone_return (eqb (get_or bytes i 0) 13) (drop (i + 1) bytes))
  unfolding lone_return
  with_byte h = rw (drop_more bytes i 0 h)

  -- With none left there is none.
  pub none_left : length bytes ≤ i → lone_return after (drop i bytes) ≡ false
  unfolding lone_return
  none_left h = rw (drop_of_length-le bytes h)
