-- Writes all or nothing, alone and one behind another.
use Prim.Native.Nat.{ℕ, ◌+◌, ◌≤◌, ◌<◌}
use mathlib.Core.Path.{◌≡◌, sym, ◌∙◌}
use mathlib.Core.List.{List, [], ◌++◌}
use native.Mathlib.Omega.{arith}
use borrow.Author.Tests.{lt-leb, le-leb}
use lib.ListN.{length, length-append, take-append-drop}
use lib.Seq.{length-sets}
use Rattle.number.specs.Number.{written, written_if, count_if}
use Rattle.number.proofs.Laws.{sets_written, written_more}

-- A write with no room, and one with room.
pub no_room : (out : List ℕ) (at : ℕ) (bytes : List ℕ) → length out < at + length bytes
    → (0 ≡ count_if out at bytes) × (out ≡ written_if out at bytes)
unfolding count_if written_if
no_room out at bytes h = let e = lt-leb (at + length bytes) (length out) h in (rw e, rw e)

pub room : (out : List ℕ) (at : ℕ) (bytes : List ℕ) → at + length bytes ≤ length out
    → (length bytes ≡ count_if out at bytes) × (written out at bytes ≡ written_if out at bytes)
unfolding count_if written_if
room out at bytes h = let e = le-leb (at + length bytes) (length out) h in (rw e, rw e)

length-written : (out : List ℕ) (at : ℕ) (bytes : List ℕ) → at + length bytes ≤ length out → length (written out at bytes) ≡ length out
length-written out at bytes h = rw (← sets_written out at bytes h) (length-sets out at bytes)

-- A write behind another.
pub then_write : (out : List ℕ) (at : ℕ) (xs ys : List ℕ) → at + (length xs + length ys) ≤ length out
    → (count_if (written out at xs) (at + length xs) ys ≡ length ys)
    × (written_if (written out at xs) (at + length xs) ys ≡ written out at (xs ++ ys))
then_write out at xs ys h =
    let fits : at + length (xs ++ ys) ≤ length out = simp length-append h in
    let same = length-written out at xs (omega arith) in
    let (count, content) = room (written out at xs) (at + length xs) ys (omega arith) in
    (sym count, sym content ∙ written_more out at xs ys fits)

-- Nothing written.
pub written-nothing : (out : List ℕ) (at : ℕ) → written out at [] ≡ out
written-nothing out at = let e : at + 0 ≡ at = omega arith in rw e (take-append-drop at out)

-- Writes one behind another: so many bytes, at their place, so far.
pub record Wrote (out₀ : List ℕ) (at : ℕ) (bytes : List ℕ) (count : ℕ) (out : List ℕ) : Type 0 where
  pub counted : count ≡ length bytes
  pub content : out ≡ written out₀ at bytes

pub wrote : {out : List ℕ} {count : ℕ} (out₀ : List ℕ) (at : ℕ) (bytes : List ℕ) → at + length bytes ≤ length out₀ → count ≡ count_if out₀ at bytes
    → out ≡ written_if out₀ at bytes → Wrote out₀ at bytes count out
wrote out₀ at bytes h c o =
    let (count, content) = room out₀ at bytes h in record { counted = c ∙ sym count; content = o ∙ sym content }

pub wrote_more : {out₀ out out' xs : List ℕ} {at n m : ℕ} (ys : List ℕ) → Wrote out₀ at xs n out → at + (length xs + length ys) ≤ length out₀
    → m ≡ count_if out (at + n) ys → out' ≡ written_if out (at + n) ys → Wrote out₀ at (xs ++ ys) (n + m) out'
wrote_more {out₀} {xs = xs} {at = at} ys w h c o =
    let (count, content) = then_write out₀ at xs ys h in
    record {
      counted = rw (c, w.content, w.counted, count) (sym (length-append xs ys));
      content = o ∙ rw (w.content, w.counted) content;
    }
