-- Several numbers, one after another: those from here on are the next one, in front of the others.
use Prim.Native.Nat.{ℕ, ◌+◌, ◌≤◌, ◌<◌}
use mathlib.Core.Path.{◌≡◌, sym, ap, ◌∙◌}
use mathlib.Core.List.{List, ◌++◌}
use native.Mathlib.Numerals.{add-one}
use native.Mathlib.Omega.{arith}
use lib.ListN.{length, drop, get_or, length-append}
use lib.Seq.{drop-cons}
use Rattle.number.specs.Number.{bytes_of, written, written_if, count_if}
use Rattle.number.proofs.Laws.{written_more}
use Rattle.number.proofs.Written.{room}
use Rattle.recording.specs.Recording.{bytes_of_all}

module _ (list : List ℕ) (i : ℕ) (h : i < length list) where
  next_number : bytes_of_all (drop i list) ≡ bytes_of (get_or list i 0) ++ bytes_of_all (drop (i + 1) list)
  unfolding bytes_of_all
  next_number = ap bytes_of_all (drop-cons list i 0 h) ∙ rw add-one

  pub next-length : length (bytes_of_all (drop i list)) ≡ length (bytes_of (get_or list i 0)) + length (bytes_of_all (drop (i + 1) list))
  next-length = ap length next_number ∙ simp length-append

  -- The next one is written, and then the others: all of them are
  pub next-written : (out : List ℕ) (place size : ℕ) (after : List ℕ) → place + length (bytes_of_all (drop i list)) ≤ length out
      → size ≡ count_if out place (bytes_of (get_or list i 0))
      → after ≡ written_if out place (bytes_of (get_or list i 0))
      → (place + size + length (bytes_of_all (drop (i + 1) list)) ≤ length out)
      × (written after (place + size) (bytes_of_all (drop (i + 1) list)) ≡ written out place (bytes_of_all (drop i list)))
  next-written out place size after enough s w =
      let n : ℕ = get_or list i 0 in
      let rest : List ℕ = bytes_of_all (drop (i + 1) list) in
      let sizes = next-length in
      let (count, content) = room out place (bytes_of n) (omega arith) in
      let exact : size ≡ length (bytes_of n) = s ∙ sym count in
      let put : after ≡ written out place (bytes_of n) = w ∙ sym content in
      (omega arith, rw (put, exact, next_number) (written_more out place (bytes_of n) rest (rw length-append (omega arith))))
