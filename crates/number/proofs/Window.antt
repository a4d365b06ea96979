-- A number at a place is decided by the bytes from there on, of which it uses at least one and at most ten: what stands before
-- only moves the places, and what stands past ten bytes is not looked at.
use Prim.Native.Nat.{ℕ, zero, suc, ◌+◌, ◌*◌, ◌-◌, ◌^◌, ◌≤◌, ◌<◌}
use native.Mathlib.Omega.{arith}
use mathlib.Core.Path.{◌≡◌, refl}
use mathlib.Core.Logic.{⊎_elim}
use mathlib.Core.Bool.{Bool, true, false, cond, ◌||◌}
use mathlib.Core.List.{List, [], ◌∷◌, ◌++◌}
use lib.Dec.{leb, eqb}
use lib.ListN.{length, drop, length-drop}
use lib.Seq.{drop-drop, drop-append-le}
use Rattle.bits.proofs.Cases.{below_or_not, never}
use Rattle.number.specs.Number.{Found, continued, number_in, number_at}
use Rattle.number.proofs.Laws.{last_read, more_read, continued_inv}
use Rattle.number.specs.declared.Fault.TheVariants.{Malformed}
use Rattle.std.proofs.Common.{Ok, Err}
use Rattle.bits.proofs.Pairs.{ok_parts}

-- What was found, with its place moved.
abbrev pub moved : ℕ → Found → Found
moved d (Ok (n, next)) = Ok (n, d + next)
moved d (Err fault) = Err fault

moved_continued : (d b : ℕ) (f : Found) → continued b (moved d f) ≡ moved d (continued b f)
moved_continued d b (Ok (n, next)) = go (eqb n 0 || leb (2 ^ 57) n)
  where
    go : (t : Bool) → cond t (Err Malformed) (Ok (b - 128 + 128 * n, d + next)) ≡ moved d (cond t (Err Malformed) (Ok (b - 128 + 128 * n, next)))
    go true = refl
    go false = refl
moved_continued d b (Err fault) = refl

moved_in : (k : ℕ) (bytes : List ℕ) (d at : ℕ) → number_in k bytes (d + at) ≡ moved d (number_in k bytes at)
unfolding number_in
moved_in zero bytes d at = refl
moved_in (suc k) [] d at = refl
moved_in (suc k) (b ∷ bytes) d at =
    ⊎_elim
    (λ l. rw (last_read k b bytes (d + at) l, last_read k b bytes at l) (let place : d + at + 1 ≡ d + (at + 1) = omega arith in rw place refl))
    (λ g.
    let same : d + at + 1 ≡ d + (at + 1) = omega arith in
    rw (more_read k b bytes (d + at) g, more_read k b bytes at g, same, moved_in k bytes d (at + 1)) (moved_continued d b (number_in k bytes (at + 1))))
    (below_or_not b 128)

-- The bytes before a place only move it.
pub number_moved : (bytes : List ℕ) (d at : ℕ) → number_at bytes (d + at) ≡ moved d (number_at (drop d bytes) at)
unfolding number_at
number_moved bytes d at = rw (drop-drop at d bytes) (moved_in 10 (drop (d + at) bytes) d at)

-- How far a number reaches: one byte at least, and no more than are allowed or there.
pub record Reach (allowed : ℕ) (bytes : List ℕ) (at next : ℕ) : Type 0 where
  pub further : at < next
  pub allowed_to : next ≤ at + allowed
  pub there : next ≤ at + length bytes

reach_in : (k : ℕ) (bytes : List ℕ) (at n next : ℕ) → number_in k bytes at ≡ Ok (n, next) → Reach k bytes at next
unfolding number_in
reach_in zero bytes at n next e = never (cc)
reach_in (suc k) [] at n next e = never (cc)
reach_in (suc k) (b ∷ bytes) at n next e =
    ⊎_elim
    (λ l. let parts = ok_parts b n (at + 1) next (rw (last_read k b bytes at l) at e) in record { further = omega arith; allowed_to = omega arith; there = omega arith })
    (λ g.
    let i = continued_inv b (number_in k bytes (at + 1)) n next (rw (more_read k b bytes at g) at e) in
    let r = reach_in k bytes (at + 1) i.0 next i.1 in
    record { further = omega (arith, r.further); allowed_to = omega (arith, r.allowed_to); there = omega (arith, r.there) })
    (below_or_not b 128)

pub reach : (bytes : List ℕ) (at n next : ℕ) → number_at bytes at ≡ Ok (n, next) → Reach 10 (drop at bytes) at next
unfolding number_at
reach bytes at n next e = reach_in 10 (drop at bytes) at n next e

window_in : (k : ℕ) (bytes more : List ℕ) (at : ℕ) → k ≤ length bytes → number_in k (bytes ++ more) at ≡ number_in k bytes at
unfolding number_in
window_in zero bytes more at h = refl
window_in (suc k) [] more at h = absurd (omega arith)
window_in (suc k) (b ∷ bytes) more at h = rw (window_in k bytes more (at + 1) (omega arith))

-- With ten bytes there, what comes behind them is not looked at.
pub number_window : (bytes more : List ℕ) (at : ℕ) → at + 10 ≤ length bytes → number_at (bytes ++ more) at ≡ number_at bytes at
unfolding number_at
number_window bytes more at h =
    rw (drop-append-le at bytes more (omega arith)) (window_in 10 (drop at bytes) more at (simp length-drop (omega arith)))
