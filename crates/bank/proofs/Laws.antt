-- What the bank view shows: its own bank's part, and no other.
use Prim.Native.Nat.{ℕ, ◌+◌, ◌*◌, ◌%◌, ◌<◌, ◌≤◌}
use native.Mathlib.Omega.{arith}
use mathlib.Core.Path.{◌≡◌, refl}
use mathlib.Core.Bool.{Bool, true, false, cond, ◌||◌, not}
use mathlib.Core.Logic.{⊎_elim}
use mathlib.Core.List.{List, [], ◌∷◌, ◌++◌, map}
use lib.Dec.{eqb, ltb, leb}
use lib.ListN.{length, replicate}
use borrow.Author.Tests.{le-leb, lt-leb, le-ltb, eqb-true, ltb-false}
use Rattle.bits.specs.Bits.{one_of}
use Rattle.bits.proofs.Cases.{below_or_not}
use Rattle.bits.proofs.Each.{left, right}
use Rattle.state.specs.Named.{sizes}
use Rattle.room.specs.declared.Record.{Record}
use Rattle.room.specs.Room.{zero_record, in_place, records, numbered, needed}
use Rattle.room.proofs.Laws.{record_number}
use Rattle.answer.specs.declared.Answer.TheVariants.{Value, Refused}
use Rattle.bank.specs.Bank.{bank_refusal, view_shows, bank_shows}

-- Past the size a view shows a zero record.
pub past_size : (size start first m : ℕ) (room : List ℕ) → size ≤ m + first → view_shows size start first m room ≡ zero_record
unfolding view_shows
past_size size start first m room h = rw (record_number size start (m + first) room, le-ltb (m + first) size h) (either (leb 32 m))
  where
    either : (t : Bool) → cond t zero_record zero_record ≡ zero_record
    either true = refl
    either false = refl

listed : (t : Bool) (n : ℕ) → cond t 4 n ≡ 0 → t ≡ false
listed true n e = absurd (omega (arith, e))
listed false n e = refl

-- Where nothing is refused, BANK is below 4 and m below 32.
in_lists : (size start bank m : ℕ) (room : List ℕ) → bank_refusal size start bank m room ≡ 0 → (bank ≤ 3) × (m ≤ 31)
unfolding bank_refusal
in_lists size start bank m room e =
    let outside = listed (not (one_of sizes size) || ltb 3 bank || ltb 31 m) (cond (leb size start) 7 (cond (ltb (length room) (needed size)) 6 0)) e in
    let banks = left (not (one_of sizes size) || ltb 3 bank) (ltb 31 m) outside in
    (ltb-false 3 bank (right (not (one_of sizes size)) (ltb 3 bank) banks), ltb-false 31 m (right (not (one_of sizes size) || ltb 3 bank) (ltb 31 m) outside))

-- Where nothing is refused, a bank shows the register of the record with the number m + 32 × BANK.
pub own_part : (register : Record → ℕ) (size start bank m : ℕ) (room : List ℕ) → bank_refusal size start bank m room ≡ 0
    → bank_shows register size start bank m room ≡ Value (register (numbered (m + 32 * bank) (records size start room)))
unfolding bank_shows view_shows
own_part register size start bank m room e =
    let (in-banks, in-bank) = in_lists size start bank m room e in
    rw (e, lt-leb 32 m (omega (arith, in-bank)))

-- BANK by its two bits shows the same, since a larger one is refused.
pub two_bits : (register : Record → ℕ) (size start bank m : ℕ) (room : List ℕ)
    → cond (eqb (bank_refusal size start bank m room) 0) (Value (register (view_shows size start (32 * (bank % 4)) m room))) (Refused (bank_refusal size start bank m room))
    ≡ bank_shows register size start bank m room
unfolding bank_shows
two_bits register size start bank m room = go (eqb (bank_refusal size start bank m room) 0) refl
  where
    go : (t : Bool) → eqb (bank_refusal size start bank m room) 0 ≡ t
        → cond t (Value (register (view_shows size start (32 * (bank % 4)) m room))) (Refused (bank_refusal size start bank m room))
        ≡ cond t (Value (register (view_shows size start (32 * bank) m room))) (Refused (bank_refusal size start bank m room))
    go true e =
        let (in-banks, in-bank) = in_lists size start bank m room (eqb-true (bank_refusal size start bank m room) 0 e) in
        let same : bank % 4 ≡ bank = omega (arith, in-banks) in
        rw same
    go false e = refl

-- And no other bank's: what a view shows, at any m, is decided by the 32 records from its first on.
pub no_other : (size start first : ℕ) (a b : List ℕ) → ((i : ℕ) → i < 32 → numbered (i + first) (records size start a) ≡ numbered (i + first) (records size start b))
    → (m : ℕ) → view_shows size start first m a ≡ view_shows size start first m b
unfolding view_shows
no_other size start first a b same m =
    ⊎_elim (λ h. rw (lt-leb 32 m h) (same m h)) (λ h. rw (le-leb 32 m h)) (below_or_not m 32)

-- Each way out occurs: two banks of 64 records, a bank past a size of 32, place 32 as record 42 from the start 54 on, refusals 4, 7
-- and 6, each before those behind it.
examples : map (λ (c : ℕ × ℕ × ℕ × ℕ × ℕ). bank_shows (λ r. r.source) c.0 c.1 c.2 c.3 (replicate 96 0 ++ (7 ∷ 8 ∷ 9 ∷ replicate c.4 0)))
    ((64, 0, 1, 0, 93) ∷ (64, 0, 0, 0, 93) ∷ (32, 0, 1, 0, 93) ∷ (64, 54, 1, 10, 93) ∷ (65, 65, 1, 0, 93) ∷ (64, 0, 4, 0, 93) ∷ (64, 64, 1, 32, 0)
    ∷ (64, 64, 1, 0, 92) ∷ (64, 63, 1, 0, 92) ∷ [])
    ≡ Value 8 ∷ Value 0 ∷ Value 0 ∷ Value 8 ∷ Refused 4 ∷ Refused 4 ∷ Refused 4 ∷ Refused 7 ∷ Refused 6 ∷ []
unfolding bank_refusal view_shows bank_shows in_place records numbered
examples = refl
