-- What becomes of an event is what is defined by which of its sides are prohibited.
use mathlib.Core.Path.{◌≡◌, refl}
use mathlib.Core.Bool.{Bool}
use Rattle.state.specs.declared.State.{State}
use Rattle.state.specs.declared.Running.{Running}
use Rattle.region.specs.Region.{prohibited}
use Rattle.event.specs.declared.Event.{Event}
use Rattle.event.specs.Event.{valid, MPRED, BRBINF, record_of, becomes_record}
use Rattle.event.specs.Hidden.{record_by, becomes_by}

pub record_by_lem : (s : State) (r : Running) (e : Event) → record_by (prohibited s e.left) (prohibited s e.entered) s r e ≡ record_of s r e
unfolding valid MPRED BRBINF record_of record_by
record_by_lem s r e = refl

pub becomes_by_lem : (s : State) (wanted : Bool) (e : Event) → becomes_by (prohibited s e.left) (prohibited s e.entered) s wanted ≡ becomes_record s wanted e
unfolding valid becomes_record becomes_by
becomes_by_lem s wanted e = refl
