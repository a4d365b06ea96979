-- All operations of a run: each turn's operation is one of those that were left, and has room; at the end none is left.
use Prim.Native.Nat.{ℕ, suc, ◌+◌, ◌*◌, ◌≤◌, ◌<◌}
use native.Mathlib.Omega.{arith}
use mathlib.Core.Path.{◌≡◌, refl, sym, ap, ◌∙◌}
use mathlib.Core.List.{List}
use lib.ListN.{length}
use Rattle.answer.specs.declared.Answer.{Answer}
use Rattle.number.proofs.Written.{written-nothing}
use Rattle.recorder.specs.Result.{Result}
use Rattle.recording.specs.Recording.{operation_at}
use Rattle.recording.specs.Run.{place_after}
use Rattle.batch.specs.Batch.{steps, in_numbers}
use Rattle.recording.proofs.Run.{left, all_left, none_left, one_left, goes_further}
use Rattle.batch.proofs.Steps.{front, then_theirs}
use Rattle.batch.proofs.step_all.Goals as goal

pub loop-at-init : goal.loop-at-init
loop-at-init c = rw (all_left c.args.bytes.now) (refl, refl, refl, omega arith, omega arith, refl, refl, refl)

pub turn-at-requires : goal.turn-at-requires
turn-at-requires c =
    let l = c.loop-at in
    let there : l.at < length c.args.bytes.now = omega arith in
    omega (arith, l.invariant.2, l.invariant.4, c.requires, ap length (one_left c.args.bytes.now l.at there))

pub loop-at-smaller : goal.loop-at-smaller
loop-at-smaller c =
    let l = c.loop-at in
    let there : l.at < length c.args.bytes.now = omega arith in
    omega (arith, c.turn-at.ensures.value, goes_further c.args.bytes.now l.at there)

pub loop-at-preserved : goal.loop-at-preserved
loop-at-preserved c =
    let l = c.loop-at in
    let bytes = c.args.bytes.now in
    let t = c.turn-at in
    let there : l.at < length bytes = omega arith in
    let one_of : length (left bytes l.at) ≡ suc (length (left bytes (place_after bytes (operation_at bytes l.at)))) = ap length (one_left bytes l.at there) in
    let fits : l.place + 2 * length (left bytes l.at) ≤ length l.answers = omega (arith, l.invariant.2, l.invariant.4, c.requires) in
    let behind = front bytes l.words l.room l.answers l.at l.place there in (
      t.auto.words ∙ l.invariant.0,
      t.auto.room ∙ l.invariant.1,
      t.auto.answers ∙ l.invariant.2,
      rw t.ensures.value (goes_further bytes l.at there).1,
      rw t.ensures.value (omega (arith, one_of, l.invariant.4)),
      rw (t.ensures.value, t.ensures.words_after, t.ensures.room_after) (ap (λ (r : Result (List Answer) (List ℕ)). r.state) (sym behind) ∙ l.invariant.5),
      rw (t.ensures.value, t.ensures.words_after, t.ensures.room_after) (ap (λ (r : Result (List Answer) (List ℕ)). r.room) (sym behind) ∙ l.invariant.6),
      rw (t.ensures.value, t.ensures.words_after, t.ensures.room_after, t.ensures.answers_after)
          (then_theirs bytes l.words l.room l.answers l.at l.place there fits ∙ l.invariant.7),
    )

pub returns-clause-value : goal.returns-clause-value
returns-clause-value c =
    omega (arith, ap length (none_left c.args.bytes.now c.loop-at.at (omega arith)), c.loop-at.invariant.4)

pub returns-clause-words_after : goal.returns-clause-words_after
unfolding steps
returns-clause-words_after c = rw (none_left c.args.bytes.now c.loop-at.at (omega arith)) at c.loop-at.invariant.5

pub returns-clause-room_after : goal.returns-clause-room_after
unfolding steps
returns-clause-room_after c = rw (none_left c.args.bytes.now c.loop-at.at (omega arith)) at c.loop-at.invariant.6

pub returns-clause-answers_after : goal.returns-clause-answers_after
unfolding steps in_numbers
returns-clause-answers_after c =
    let l = c.loop-at in
    sym (written-nothing l.answers l.place) ∙ (rw (none_left c.args.bytes.now l.at (omega arith)) at l.invariant.7)
