-- `room::record_at` meets its contract: by the law on a record's number; past the room's end each number is the default.
use Prim.Native.Nat.{ℕ, ◌+◌, ◌*◌, ◌≤◌}
use native.Mathlib.Omega.{arith}
use mathlib.Core.List.{List}
use mathlib.Core.Path.{◌≡◌}
use lib.ListN.{length, get_or-eq_default}
use borrow.Author.Tests.{le-ltb, lt-ltb}
use Rattle.room.specs.Room.{zero_record, placed}
use Rattle.room.proofs.Laws.{record_number}
use Rattle.room.proofs.record_at.Goals as goal

no_place : (room : List ℕ) (p : ℕ) → length room ≤ p → zero_record ≡ placed p room
no_place room p h =
    let none : length room ≤ 3 * p = omega arith in
    let none1 : length room ≤ 3 * p + 1 = omega arith in
    let none2 : length room ≤ 3 * p + 2 = omega arith in
    rw (get_or-eq_default room 0 none, get_or-eq_default room 0 none1, get_or-eq_default room 0 none2)

pub returns-then-size-r : goal.returns-then-size-r
returns-then-size-r c =
    let a = c.args in
    rw (c.zero.ensures, record_number a.size a.start a.r a.room.now, le-ltb a.r a.size (omega arith))

pub returns-then-room-number : goal.returns-then-room-number
returns-then-room-number c =
    let a = c.args in
    rw (
      c.zero-then-room-number.ensures,
      record_number a.size a.start a.r a.room.now,
      lt-ltb a.r a.size (omega arith),
      ← c.place-number.ensures,
    )
    (no_place a.room.now _ (omega arith))

pub returns : goal.returns
returns c =
    let a = c.args in
    rw (
      record_number a.size a.start a.r a.room.now,
      lt-ltb a.r a.size (omega arith),
      ← c.place-number.ensures,
      c.number_at.ensures,
      c.number_at-2.ensures,
      c.number_at-3.ensures,
    )
