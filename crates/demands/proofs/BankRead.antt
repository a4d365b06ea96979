-- The bank view agrees with a record read: at the state's own size, start and BANK it shows what a read of the register shows.
use Prim.Native.Nat.{ℕ, ◌+◌, ◌*◌, ◌≤◌, ◌<◌}
use native.Mathlib.Omega.{arith}
use mathlib.Core.Path.{◌≡◌, sym, ap, ◌∙◌}
use mathlib.Core.Bool.{true}
use mathlib.Core.List.{List}
use lib.ListN.{length}
use borrow.Author.Tests.{le-ltb, lt-leb}
use Rattle.bits.specs.Bits.{one_of}
use Rattle.state.specs.declared.State.{State}
use Rattle.state.specs.Named.{BANK, sizes}
use Rattle.room.specs.declared.Record.{Record}
use Rattle.room.specs.Room.{records, numbered, needed}
use Rattle.access.specs.Access.{register_value}
use Rattle.answer.specs.declared.Answer.TheVariants.{Value}
use Rattle.bank.specs.Bank.{bank_refusal, bank_shows}
use Rattle.bank.proofs.Laws.{own_part}
use Rattle.demands.proofs.Demand2.{read_shows}

module _ (s : State) (m : ℕ) (room : List ℕ) (in-bank : m < 32) (was_reset : one_of sizes s.size ≡ true) (a_place : s.start < s.size)
    (room_enough : needed s.size ≤ length room) where
  -- After a reset, with a start that is a place and room for the state's size, the view refuses nothing.
  not_refused : bank_refusal s.size s.start (BANK s) m room ≡ 0
  unfolding bank_refusal
  not_refused = rw (was_reset, le-ltb 3 (BANK s) (omega arith), le-ltb 31 m (omega arith), lt-leb s.size s.start a_place, le-ltb (length room) (needed s.size) room_enough)

  shows : (register : Record → ℕ) (value : ℕ) → value ≡ register (numbered (m + 32 * BANK s) (records s.size s.start room))
      → bank_shows register s.size s.start (BANK s) m room ≡ Value value
  shows register value e = own_part register s.size s.start (BANK s) m room not_refused ∙ ap Value (sym e)

  pub bank_reads : (bank_shows (λ r. r.inf) s.size s.start (BANK s) m room ≡ Value (register_value s (records s.size s.start room) (32 + m)))
      × (bank_shows (λ r. r.source) s.size s.start (BANK s) m room ≡ Value (register_value s (records s.size s.start room) (64 + m)))
      × (bank_shows (λ r. r.target) s.size s.start (BANK s) m room ≡ Value (register_value s (records s.size s.start room) (96 + m)))
  bank_reads =
      let (inf, source, target) = read_shows s (records s.size s.start room) m in-bank in
      (shows (λ r. r.inf) _ inf, shows (λ r. r.source) _ source, shows (λ r. r.target) _ target)
