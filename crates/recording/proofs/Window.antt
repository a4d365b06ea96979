-- An operation at a place is decided by the bytes from there on, of which it uses at least two and at most sixty: what stands
-- before only moves the places, and what stands past sixty bytes is not looked at.
use Prim.Native.Nat.{ℕ, zero, suc, ◌+◌, ◌*◌, ◌-◌, ◌≤◌, ◌<◌}
use native.Mathlib.Omega.{arith}
use mathlib.Core.Path.{◌≡◌, refl, sym, ap, ◌∙◌}
use mathlib.Core.Bool.{Bool, true, false, cond}
use mathlib.Core.Logic.{◌⊎◌, inl, inr, ⊎_elim}
use mathlib.Core.List.{List, [], ◌++◌}
use lib.Dec.{ltb, leb}
use lib.ListN.{length, drop, length-drop}
use borrow.Author.Tests.{le-leb, lt-leb}
use Rattle.bits.proofs.Cases.{never, below_or_not}
use Rattle.bits.proofs.Pairs.{ok_parts}
use Rattle.answer.specs.Answer.{refusal_number}
use Rattle.recording.specs.declared.Damage.{Damage}
use Rattle.number.specs.Number.{Found}
use Rattle.number.specs.Number.{number_at}
use Rattle.number.proofs.Window.{moved, number_moved, reach, number_window}
use Rattle.operation.specs.Operation.{last_code}
use Rattle.recording.specs.declared.Numbers.{Numbers}
use Rattle.recording.specs.Recording.{read_as, Reading}
use Rattle.recording.specs.Recording.{field_count, Several, in_front, then_read, numbers_at, with_fields, after_code, operation_at}
use Rattle.recording.proofs.Cases.{fields_at_most}
use Rattle.recording.proofs.Laws.{front_inv, then_inv, fields_inv}
use Rattle.std.proofs.Common.{Ok, Err}
use Rattle.answer.specs.declared.Refusal.TheVariants.{MalformedNumber, UnknownCode}
use Rattle.recording.specs.Recording.{damage}

-- ---- places moved

abbrev moved_all : ℕ → Several → Several
moved_all d (Ok (list, next)) = Ok (list, d + next)
moved_all d (Err b) = Err (damage b.refusal (d + b.at))

-- What was read, with its place moved.
abbrev pub moved_reading : ℕ → Reading → Reading
moved_reading d (Ok (x, next)) = Ok (x, d + next)
moved_reading d (Err b) = Err (damage b.refusal (d + b.at))

front_moved : (d n : ℕ) (r : Several) → in_front n (moved_all d r) ≡ moved_all d (in_front n r)
front_moved d n (Ok (list, next)) = refl
front_moved d n (Err b) = refl

then_moved : (rest rest' : ℕ → Several) (d at : ℕ) (f : Found) → ((next : ℕ) → rest (d + next) ≡ moved_all d (rest' next))
    → then_read rest (read_as (d + at) (moved d f)) ≡ moved_all d (then_read rest' (read_as at f))
then_moved rest rest' d at (Ok (n, next)) same = rw (same next) (front_moved d n (rest' next))
then_moved rest rest' d at (Err fault) same = refl

numbers_moved : (k : ℕ) (bytes : List ℕ) (d at : ℕ) → numbers_at k bytes (d + at) ≡ moved_all d (numbers_at k (drop d bytes) at)
unfolding numbers_at
numbers_moved zero bytes d at = refl
numbers_moved (suc k) bytes d at =
    rw (number_moved bytes d at)
    (then_moved (numbers_at k bytes) (numbers_at k (drop d bytes)) d at (number_at (drop d bytes) at) (λ next. numbers_moved k bytes d next))

fields_moved : (d code : ℕ) (r : Several) → with_fields code (moved_all d r) ≡ moved_reading d (with_fields code r)
fields_moved d code (Ok (list, next)) = refl
fields_moved d code (Err b) = refl

code_moved : (bytes : List ℕ) (d at : ℕ) (f : Found) → after_code bytes (d + at) (read_as (d + at) (moved d f)) ≡ moved_reading d (after_code (drop d bytes) at (read_as at f))
code_moved bytes d at (Ok (code, next)) = go (ltb last_code code)
  where
    go : (t : Bool) → cond t (Err (damage UnknownCode (d + at))) (with_fields code (numbers_at (suc (field_count code)) bytes (d + next)))
        ≡ moved_reading d (cond t (Err (damage UnknownCode at)) (with_fields code (numbers_at (suc (field_count code)) (drop d bytes) next)))
    go true = refl
    go false = rw (numbers_moved (suc (field_count code)) bytes d next) (fields_moved d code (numbers_at (suc (field_count code)) (drop d bytes) next))
code_moved bytes d at (Err fault) = refl

-- The bytes before a place only move it.
pub operation_moved : (bytes : List ℕ) (d at : ℕ) → operation_at bytes (d + at) ≡ moved_reading d (operation_at (drop d bytes) at)
unfolding operation_at
operation_moved bytes d at = rw (number_moved bytes d at) (code_moved bytes d at (number_at (drop d bytes) at))

-- ... and the test for the end with it.
pub end_moved : (length at d : ℕ) → leb length (d + at) ≡ leb (length - d) at
end_moved length at d =
    ⊎_elim (λ (h : d + at < length). lt-leb length (d + at) h ∙ sym (lt-leb (length - d) at (omega arith)))
    (λ (h : length ≤ d + at). le-leb length (d + at) h ∙ sym (le-leb (length - d) at (omega arith)))
    (below_or_not (d + at) length)

-- ---- sixty bytes are enough

window_then : (rest rest' : ℕ → Several) (at : ℕ) (f : Found) → ((n next : ℕ) → f ≡ Ok (n, next) → rest next ≡ rest' next)
    → then_read rest (read_as at f) ≡ then_read rest' (read_as at f)
window_then rest rest' at (Ok (n, next)) same = ap (in_front n) (same n next refl)
window_then rest rest' at (Err fault) same = refl

numbers_window : (k : ℕ) (bytes more : List ℕ) (at : ℕ) → at + 10 * k ≤ length bytes → numbers_at k (bytes ++ more) at ≡ numbers_at k bytes at
unfolding numbers_at
numbers_window zero bytes more at h = refl
numbers_window (suc k) bytes more at h =
    rw (number_window bytes more at (omega arith))
    (window_then (numbers_at k (bytes ++ more)) (numbers_at k bytes) at (number_at bytes at)
    (λ n next e. numbers_window k bytes more next (omega (arith, (reach bytes at n next e).allowed_to))))

window_code : (bytes more : List ℕ) (at : ℕ) (f : Found)
    → ((code next : ℕ) → f ≡ Ok (code, next) → next + 10 * suc (field_count code) ≤ length bytes)
    → after_code (bytes ++ more) at (read_as at f) ≡ after_code bytes at (read_as at f)
window_code bytes more at (Ok (code, next)) enough =
    rw (numbers_window (suc (field_count code)) bytes more next (enough code next refl))
window_code bytes more at (Err fault) enough = refl

-- With sixty bytes there, what comes behind them is not looked at.
pub operation_window : (bytes more : List ℕ) (at : ℕ) → at + 60 ≤ length bytes → operation_at (bytes ++ more) at ≡ operation_at bytes at
unfolding operation_at
operation_window bytes more at h =
    rw (number_window bytes more at (omega arith))
    (window_code bytes more at (number_at bytes at)
    (λ code next e. omega (arith, (reach bytes at code next e).allowed_to, fields_at_most code)))

-- ---- how far an operation reaches

numbers_reach : (k : ℕ) (bytes : List ℕ) (at : ℕ) (list : List ℕ) (next : ℕ) → at ≤ length bytes → numbers_at k bytes at ≡ Ok (list, next)
    → (at + k ≤ next) × (next ≤ length bytes)
unfolding numbers_at
numbers_reach zero bytes at list next h e = let parts = ok_parts [] list at next e in (omega (arith, parts.1), omega (arith, parts.1))
numbers_reach (suc k) bytes at list next h e =
    let i = then_inv (numbers_at k bytes) at (number_at bytes at) list next e in
    let one = reach bytes at i.0 i.1 i.2 in
    let there = simp length-drop at one.there in
    let j = front_inv i.0 (numbers_at k bytes i.1) list next i.3 in
    let rest = numbers_reach k bytes i.1 j.0 next (omega (arith, there)) j.1 in
    (omega (arith, one.further, rest.0), rest.1)

code_reach : (bytes : List ℕ) (at : ℕ) (f : Found) (x : Numbers) (next : ℕ) → ((code p : ℕ) → f ≡ Ok (code, p) → (at < p) × (p ≤ length bytes))
    → after_code bytes at (read_as at f) ≡ Ok (x, next)
    → (at + 2 ≤ next) × (next ≤ length bytes)
code_reach bytes at (Ok (code, p)) x next first e = go (ltb last_code code) e
  where
    go : (t : Bool) → cond t (Err (damage UnknownCode at)) (with_fields code (numbers_at (suc (field_count code)) bytes p)) ≡ Ok (x, next)
        → (at + 2 ≤ next) × (next ≤ length bytes)
    go true h = never (cc)
    go false h =
        let one = first code p refl in
        let i = fields_inv code (numbers_at (suc (field_count code)) bytes p) x next h in
        let rest = numbers_reach (suc (field_count code)) bytes p i.0 next one.1 i.1 in
        (omega (arith, one.0, rest.0), rest.1)
code_reach bytes at (Err fault) x next first e = never (cc)

-- An operation that was read has two bytes at least, and ends within the input.
pub operation_reach : (bytes : List ℕ) (at : ℕ) (x : Numbers) (next : ℕ) → at ≤ length bytes → operation_at bytes at ≡ Ok (x, next)
    → (at + 2 ≤ next) × (next ≤ length bytes)
unfolding operation_at
operation_reach bytes at x next h e =
    code_reach bytes at (number_at bytes at) x next
    (λ code p f. let one = reach bytes at code p f in let there = simp length-drop at one.there in (one.further, omega (arith, there)))
    e

-- ---- what reading is refused with

bad_front : (n : ℕ) (e : Damage) (r : Several) → ((d : Damage) → r ≡ Err d → d.refusal ≡ MalformedNumber) → in_front n r ≡ Err e → e.refusal ≡ MalformedNumber
bad_front n e (Ok (list, p)) rest h = never (cc)
bad_front n e (Err d) rest h = let same : d ≡ e = cc in rw (← same) (rest d refl)

bad_then : (rest : ℕ → Several) (at : ℕ) (e : Damage) (f : Found) → ((next : ℕ) (d : Damage) → rest next ≡ Err d → d.refusal ≡ MalformedNumber)
    → then_read rest (read_as at f) ≡ Err e
    → e.refusal ≡ MalformedNumber
bad_then rest at e (Ok (n, next)) ones h = bad_front n e (rest next) (ones next) h
bad_then rest at e (Err fault) ones h = let same : damage MalformedNumber at ≡ e = cc in rw (← same) refl

all_bad : (k : ℕ) (bytes : List ℕ) (at : ℕ) (d : Damage) → numbers_at k bytes at ≡ Err d → d.refusal ≡ MalformedNumber
unfolding numbers_at
all_bad zero bytes at d e = never (cc)
all_bad (suc k) bytes at d e =
    bad_then (numbers_at k bytes) at d (number_at bytes at) (λ next. all_bad k bytes next) e

-- Reading is refused with 1 or 2, and with nothing else.
pub refused_by : (bytes : List ℕ) (at : ℕ) (d : Damage) → operation_at bytes at ≡ Err d → (refusal_number d.refusal ≡ 1) ⊎ (refusal_number d.refusal ≡ 2)
unfolding operation_at
refused_by bytes at d e = found (number_at bytes at) e
  where
    fields : (code next : ℕ) (r : Several) → numbers_at (suc (field_count code)) bytes next ≡ r → with_fields code r ≡ Err d
        → (refusal_number d.refusal ≡ 1) ⊎ (refusal_number d.refusal ≡ 2)
    fields code next (Ok (list, p)) f h = never (cc)
    fields code next (Err b) f h = let same : b ≡ d = cc in inl (rw (← same, all_bad (suc (field_count code)) bytes next b f) refl)

    found : (f : Found) → after_code bytes at (read_as at f) ≡ Err d → (refusal_number d.refusal ≡ 1) ⊎ (refusal_number d.refusal ≡ 2)
    found (Ok (code, next)) h = go (ltb last_code code) h
      where
        go : (t : Bool) → cond t (Err (damage UnknownCode at)) (with_fields code (numbers_at (suc (field_count code)) bytes next)) ≡ Err d
            → (refusal_number d.refusal ≡ 1) ⊎ (refusal_number d.refusal ≡ 2)
        go true g = let same : damage UnknownCode at ≡ d = cc in inr (rw (← same) refl)
        go false g = fields code next (numbers_at (suc (field_count code)) bytes next) refl g
    found (Err fault) h = let same : damage MalformedNumber at ≡ d = cc in inl (rw (← same) refl)
