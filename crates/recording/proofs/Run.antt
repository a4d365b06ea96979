-- What is left of a run from a place on: what stands there, and what is left behind it; and how much that is at most.
use Prim.Native.Nat.{ℕ, zero, suc, ◌+◌, ◌*◌, ◌-◌, ◌≤◌, ◌<◌}
use native.Mathlib.Omega.{arith}
use mathlib.Core.Path.{◌≡◌, refl, sym, ap, ◌∙◌}
use mathlib.Core.Logic.{⊎_elim}
use mathlib.Core.List.{List, [], ◌∷◌}
use lib.ListN.{length}
use borrow.Author.Tests.{le-leb, lt-leb}
use Rattle.bits.proofs.Cases.{below_or_not}
use Rattle.recording.specs.declared.Numbers.{Numbers}
use Rattle.recording.specs.Recording.{Reading}
use Rattle.recording.specs.Recording.{operation_at}
use Rattle.recording.proofs.Window.{operation_reach}
use Rattle.recording.specs.Run.{then_on, read_from, readings, place_after}
use Rattle.std.proofs.Common.{Ok, Err}

same_on : (a b : ℕ → List Reading) (r : Reading) → ((x : Numbers) (next : ℕ) → r ≡ Ok (x, next) → a next ≡ b next) → then_on a r ≡ then_on b r
same_on a b (Ok (x, next)) same = ap (λ (rest : List Reading). Ok (x, next) ∷ rest) (same x next refl)
same_on a b (Err d) same = refl

-- As many readings as bytes are left are enough.
enough : (j k : ℕ) (bytes : List ℕ) (at : ℕ) → length bytes ≤ at + j → length bytes ≤ at + k → read_from j bytes at ≡ read_from k bytes at
unfolding read_from
enough zero zero bytes at h g = refl
enough zero (suc k) bytes at h g = rw (le-leb (length bytes) at (omega arith))
enough (suc j) zero bytes at h g = rw (le-leb (length bytes) at (omega arith))
enough (suc j) (suc k) bytes at h g =
    ⊎_elim
    (λ (l : at < length bytes).
    rw (lt-leb (length bytes) at l)
    (same_on (read_from j bytes) (read_from k bytes) (operation_at bytes at)
    (λ x next e. let r = operation_reach bytes at x next (omega arith) e in enough j k bytes next (omega (arith, r.0)) (omega (arith, r.0)))))
    (λ (l : length bytes ≤ at). rw (le-leb (length bytes) at l))
    (below_or_not at (length bytes))

-- What is left from a place on.
abbrev pub left : List ℕ → ℕ → List Reading
left bytes at = read_from (length bytes - at) bytes at

pub all_left : (bytes : List ℕ) → left bytes 0 ≡ readings bytes
unfolding readings
all_left bytes = let all : length bytes - 0 ≡ length bytes = omega arith in ap (λ (k : ℕ). read_from k bytes 0) all

-- Nothing, at the end.
pub none_left : (bytes : List ℕ) (at : ℕ) → length bytes ≤ at → left bytes at ≡ []
unfolding read_from
none_left bytes at h = let none : length bytes - at ≡ 0 = omega arith in ap (λ (k : ℕ). read_from k bytes at) none

-- Before it: what stands there, and what is left where reading goes on.
pub one_left : (bytes : List ℕ) (at : ℕ) → at < length bytes
    → left bytes at ≡ operation_at bytes at ∷ left bytes (place_after bytes (operation_at bytes at))
unfolding read_from
one_left bytes at h =
    let some : length bytes - at ≡ suc (length bytes - at - 1) = omega arith in
    ap (λ (k : ℕ). read_from k bytes at) some ∙ rw (lt-leb (length bytes) at h) (go (operation_at bytes at) refl)
  where
    go : (r : Reading) → operation_at bytes at ≡ r → then_on (read_from (length bytes - at - 1) bytes) r ≡ r ∷ left bytes (place_after bytes r)
    go (Ok (x, next)) e =
        let (further, within) = operation_reach bytes at x next (omega arith) e in
        ap (λ (rest : List Reading). Ok (x, next) ∷ rest) (enough (length bytes - at - 1) (length bytes - next) bytes next (omega arith) (omega arith))
    go (Err d) e = ap (λ (rest : List Reading). Err d ∷ rest) (sym (none_left bytes (length bytes) (omega arith)))

-- Reading goes on further on, and within the run.
pub goes_further : (bytes : List ℕ) (at : ℕ) → at < length bytes
    → (at < place_after bytes (operation_at bytes at)) × (place_after bytes (operation_at bytes at) ≤ length bytes)
goes_further bytes at h = go (operation_at bytes at) refl
  where
    go : (r : Reading) → operation_at bytes at ≡ r → (at < place_after bytes r) × (place_after bytes r ≤ length bytes)
    go (Ok (x, next)) e = let (further, within) = operation_reach bytes at x next (omega arith) e in (omega arith, within)
    go (Err d) e = (h, omega arith)

-- Each operation has two bytes at least, but for a last one that cannot be read.
pub half : (k : ℕ) (bytes : List ℕ) (at : ℕ) → 2 * length (read_from k bytes at) ≤ length bytes - at + 1
unfolding read_from
half zero bytes at = omega arith
half (suc k) bytes at =
    ⊎_elim (λ (l : at < length bytes). rw (lt-leb (length bytes) at l) (go l (half k bytes) (operation_at bytes at) refl))
    (λ (l : length bytes ≤ at). rw (le-leb (length bytes) at l) (omega arith))
    (below_or_not at (length bytes))
  where
    go : at < length bytes → ((next : ℕ) → 2 * length (read_from k bytes next) ≤ length bytes - next + 1) → (r : Reading)
        → operation_at bytes at ≡ r
        → 2 * length (then_on (read_from k bytes) r) ≤ length bytes - at + 1
    go l rest (Ok (x, next)) e =
        let (further, within) = operation_reach bytes at x next (omega arith) e in
        let behind = rest next in omega arith
    go l rest (Err d) e = omega arith
