-- The bank view: a bank's 32 records in the lent room, seen without an operation. Document 01, "Access outcomes", last
-- paragraph; document 02, Seven; docs/MANUAL.md, "The bank view".
use Rattle.std.specs.Prelude.{ℕ, ◌+◌, ◌*◌, cond, ◌||◌, not, List, eqb, ltb, leb, length}
use Rattle.bits.specs.Bits.{one_of}
use Rattle.state.specs.Named.{sizes}
use Rattle.room.specs.declared.Record.{Record}
use Rattle.room.specs.Room.{zero_record, records, numbered, needed}
use Rattle.answer.specs.declared.Answer.{Answer}
use Rattle.bank.specs.declared.Part.{Part}
use Rattle.bank.specs.declared.Part.TheVariants.{Inf, Source, Target}
use Rattle.answer.specs.declared.Answer.TheVariants.{Value, Refused}

-- Its refusals, in their order: 4 for what is no size, no BANK or no register of the 32; 7 for a start that is not below the size; 6
-- for a room too short for the size.
unfoldable pub bank_refusal : ℕ → ℕ → ℕ → ℕ → List ℕ → ℕ
bank_refusal size start bank m room =
    cond (not (one_of sizes size) || ltb 3 bank || ltb 31 m) 4 (cond (leb size start) 7 (cond (ltb (length room) (needed size)) 6 0))

-- The record that a view shows at m, where its bank's first record has this number: one of the bank's 32, and a zero record
-- past them and past the size. (`bank_shows` refuses an m past them before. A view itself can be asked for any m, refuses
-- nothing, and must not show another bank.)
unfoldable pub view_shows : ℕ → ℕ → ℕ → ℕ → List ℕ → Record
view_shows size start first m room = cond (leb 32 m) zero_record (numbered (m + first) (records size start room))

-- Which of a record's numbers each part is.
abbrev pub part_of : Part → Record → ℕ
part_of Inf = λ x. x.inf
part_of Source = λ x. x.source
part_of Target = λ x. x.target

-- What is answered for one register of the record at m in a bank: BRBINF, BRBSRC or BRBTGT, or the refusal.
unfoldable pub bank_shows : (Record → ℕ) → ℕ → ℕ → ℕ → ℕ → List ℕ → Answer
bank_shows register size start bank m room =
    cond (eqb (bank_refusal size start bank m room) 0) (Value (register (view_shows size start (32 * bank) m room)))
    (Refused (bank_refusal size start bank m room))
