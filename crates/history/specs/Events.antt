-- What happened in a run, in words of its operations alone: which of them made a record, where the record's event is, and what came since.
use Rattle.std.specs.Prelude.{ℕ, ◌+◌, Bool, true, false, cond, ◌&&◌, List, [], ◌∷◌, ◌++◌, ◌≡◌}
use Rattle.state.specs.declared.State.{State}
use Rattle.state.specs.Named.{counting}
use Rattle.room.specs.declared.Record.{Record}
use Rattle.room.specs.declared.Effect.{Effect}
use Rattle.room.specs.declared.Effect.TheVariants.{Keep, Push, Clear, ResetTo}
use Rattle.room.specs.Room.{numbered}
use Rattle.operation.specs.declared.Operation.{Operation}
use Rattle.operation.specs.declared.Operation.TheVariants.{Reset}
use Rattle.change.proofs.Occasions.{Occasion}
use Rattle.history.specs.History.{Timed, Machine, stepped, run, shown, is_accepted, effect_in}

-- ---- what one operation of a run does to the records

-- An effect puts a new record in front.
abbrev pub is_push : Effect → Bool
is_push Keep = false
is_push (Push new) = true
is_push Clear = false
is_push (ResetTo size) = false

-- An effect starts anew, from a reset.
abbrev pub is_reset : Effect → Bool
is_reset Keep = false
is_reset (Push new) = false
is_reset Clear = false
is_reset (ResetTo size) = true

-- An effect leaves no record: a reset's, and BRB IALL's.
abbrev pub is_emptying : Effect → Bool
is_emptying Keep = false
is_emptying (Push new) = false
is_emptying Clear = true
is_emptying (ResetTo size) = true

-- The operation is accepted and makes a record.
abbrev pub makes_record : Machine → Timed → Bool
makes_record m t = is_accepted m t && is_push (effect_in m t)

-- The operation is an accepted reset.
abbrev pub restarts : Machine → Timed → Bool
restarts m t = is_accepted m t && is_reset (effect_in m t)

-- The operation is accepted and leaves no record.
abbrev pub empties : Machine → Timed → Bool
empties m t = is_accepted m t && is_emptying (effect_in m t)

-- How many of the operations do that, one after another.
unfoldable pub how_many : (Machine → Timed → Bool) → Machine → List Timed → ℕ
how_many does m [] = 0
how_many does m (t ∷ list) = cond (does m t) 1 0 + how_many does (stepped m t) list

-- ---- a record's event

-- The operation is accepted and makes this record.
abbrev pub Makes : Machine → Timed → Record → Type 0
Makes m t new = (is_accepted m t ≡ true) × (effect_in m t ≡ Push new)

-- The last of the operations makes this record: it is its event.
pub record EndsMaking (m : Machine) (list : List Timed) (new : Record) : Type 0 where
  pub earlier : List Timed
  pub event : Timed
  pub ends : list ≡ earlier ++ (event ∷ [])
  pub makes : Makes (run m earlier) event new

-- `before` ends with the event of this record, which has the number i once the operations `after` are done: i of them made a record, which
-- moved it up by one each, and none of them left no record.
pub record EventOf (m : Machine) (before after : List Timed) (i : ℕ) (new : Record) : Type 0 where
  pub event : EndsMaking m before new
  pub moved : how_many makes_record (run m before) after ≡ i
  pub kept : how_many empties (run m before) after ≡ 0

-- The events of the records that have the numbers i + n and i at the end of a run: `before` ends with the older one's, and `middle`, which
-- follows it, with the newer one's.
pub record Between (m : Machine) (list : List Timed) (i n : ℕ) : Type 0 where
  pub before : List Timed
  pub middle : List Timed
  pub after : List Timed
  pub whole : list ≡ before ++ (middle ++ after)
  pub oldest : EventOf m before (middle ++ after) (i + n) (numbered (i + n) (shown (run m list)))
  pub newest : EventOf m (before ++ middle) after i (numbered i (shown (run m list)))

-- ---- what happened since

-- An accepted operation among these is such a one.
pub data Occurs (Such : State → Operation → Type 0) : Machine → List Timed → Type 0 where
  now : {m : Machine} {t : Timed} {list : List Timed} → is_accepted m t ≡ true → Such m.state t.operation → Occurs Such m (t ∷ list)
  later : {m : Machine} {t : Timed} {list : List Timed} → Occurs Such (stepped m t) list → Occurs Such m (t ∷ list)

-- A reset.
pub data IsReset (s : State) : Operation → Type 0 where
  a_reset : {size v1p1 : ℕ} → IsReset s (Reset size v1p1)

-- The count of a record that the operation t makes after the operations of `list` is unknown (document 01, "Cycles"; R_MJDLC), without the
-- flag: counting is off; or there was a reset and no record since it; or there was an occasion and no record since it, t itself counting as
-- one. The operations `after` are some of those since the last record: none of them made one.
pub data CountUnknown (m : Machine) (list : List Timed) (t : Timed) : Type 0 where
  counting_off : counting (run m list).state ≡ false → CountUnknown m list t
  no_record : (before after : List Timed) → list ≡ before ++ after → how_many makes_record (run m before) after ≡ 0
      → Occurs IsReset (run m before) after
      → CountUnknown m list t
  on_occasion : (before after : List Timed) → list ≡ before ++ after → how_many makes_record (run m before) after ≡ 0
      → Occurs Occasion (run m before) (after ++ (t ∷ []))
      → CountUnknown m list t

-- The operations since the last record: `before` ends with that record's event, and then no record was made and no reset accepted.
pub record SinceRecord (m : Machine) (list before after : List Timed) : Type 0 where
  pub whole : list ≡ before ++ after
  pub last : Record
  pub event : EndsMaking m before last
  pub no_record : how_many makes_record (run m before) after ≡ 0
  pub no_reset : how_many restarts (run m before) after ≡ 0
