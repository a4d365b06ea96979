-- An accepted operation, as defined: its clause is put in, then the running count, then what that makes of the records.
use mathlib.Core.Path.{◌≡◌}
use mathlib.Core.Bool.{Bool, cond}
use Rattle.state.specs.declared.State.{State}
use Rattle.state.specs.declared.Running.{Running}
use Rattle.state.specs.Named.{side}
use Rattle.room.specs.declared.Effect.{Effect}
use Rattle.region.specs.Region.{prohibited}
use Rattle.event.specs.declared.Event.{Event}
use Rattle.event.specs.Event.{record_of, becomes_record}
use Rattle.event.specs.Hidden.{record_by, becomes_by}
use Rattle.event.proofs.HiddenLaws.{record_by_lem, becomes_by_lem}
use Rattle.change.specs.Change.{passed}
use Rattle.change.proofs.Occasions.{lines}
use Rattle.change.proofs.decide.Goals as goal

-- By the sides that are prohibited it is what is defined.
by_sides : (s : State) (wanted source target : Bool) (e : Event) (otherwise : Effect) (r : Running) → source ≡ prohibited s (side s)
    → target ≡ prohibited s e.entered → e.left ≡ side s
    → cond (becomes_by source target s wanted) (Effect.Push (record_by source target s r e)) otherwise
    ≡ cond (becomes_record s wanted e) (Effect.Push (record_of s r e)) otherwise
by_sides s wanted source target e otherwise r is-source is-target left =
    rw (is-source, is-target, ← left, becomes_by_lem s wanted e, record_by_lem s r e)

pub returns : goal.returns
unfolding passed
returns c =
    let began : c.prohibited-hidden.result ≡ prohibited c.args.s (side c.args.s) = rw (c.prohibited-hidden.ensures, c.side.ensures) in
    let given = c.args in
    let clause = c.does-clause.ensures in
    let x = c.does-clause.result in
    rw (c.with_running-state.ensures, c.running_after.ensures, c.effect_by-effect.ensures, by_sides given.s x.wanted c.prohibited-hidden.result x.hides x.event x.otherwise c.passed-running.result began clause.4 clause.5, c.passed-running.ensures, began, clause.0, clause.1, lines given.s given.o, clause.2, clause.3)
