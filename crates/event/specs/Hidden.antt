-- What becomes of an event, where it is known already which of its two sides are prohibited: what the code promises, which finds that
-- out once for both. `event.proofs.HiddenLaws` says that it is what `event.Event` has.
use Rattle.std.specs.Prelude.{ℕ, Bool, cond, ◌&&◌, not, eqb}
use Rattle.count.specs.Count.{encoded}
use Rattle.state.specs.declared.State.{State}
use Rattle.state.specs.declared.Running.{Running}
use Rattle.state.specs.Named.{prediction_shown, PAUSED}
use Rattle.room.specs.declared.Record.{Record}
use Rattle.event.specs.declared.Event.{Event}
use Rattle.event.specs.Event.{count_unknown, packed}

-- VALID, by whether the source side and the target side are prohibited.
abbrev pub valid_by : Bool → Bool → ℕ
valid_by source target = cond source (cond target 0 1) (cond target 2 3)

-- MPRED, by whether the source side is.
abbrev pub MPREDBy : Bool → State → Event → ℕ
MPREDBy source s e = cond (prediction_shown s && not source) e.mispredicted 0

-- BRBINF, by both.
abbrev pub BRBINFBy : Bool → Bool → State → Running → Event → ℕ
BRBINFBy source target s running e =
    packed (cond (count_unknown s running) 1 0) (cond (count_unknown s running) 0 (encoded running.count)) e.kind (cond target 0 e.entered)
    (MPREDBy source s e)
    (valid_by source target)

-- The record, by both.
unfoldable pub record_by : Bool → Bool → State → Running → Event → Record
record_by source target s running e =
    record { inf = BRBINFBy source target s running e; source = cond source 0 e.source; target = cond target 0 e.target }

-- Whether there is one, by both.
unfoldable pub becomes_by : Bool → Bool → State → Bool → Bool
becomes_by source target s wanted = wanted && not (PAUSED s) && not (eqb (valid_by source target) 0)
