-- The next operation of a replay through buffers is a turn of a replay whose input comes in pieces, and its line stands behind
-- the others.
use Rattle.std.proofs.Common.{◌≡◌, ℕ, ◌+◌, ◌<◌, ◌≤◌, Bool, true, false, cond, List, ◌++◌, length, take, drop, Result, Ok, Err, sym, refl, ap, ◌∙◌, arith, length-drop, length-take-le, drop-drop, le-ltb, le-leb}
use borrow.Author.Tests.{lt-leb}
use Rattle.number.specs.Number.{written}
use Rattle.recording.specs.RecordedStep.{Recorded, recorded_step, stops_reading}
use Rattle.line.specs.Line.{line_of, line_written, line_count}
use Rattle.line.specs.Turn.{turn_of}
use Rattle.line.specs.Pieces.{Enough, Turns, replays, stops}
use Rattle.line.proofs.Pieces.{moved_step, step_moved}
use Rattle.stream.specs.declared.Progress.{Progress}
use Rattle.stream.specs.declared.End.{End}
use Rattle.stream.specs.declared.End.TheVariants.{Damaged}
use Rattle.stream.specs.Stream.{operated, next, unread_of}

-- By whether reading stops, a replay goes on or not.
abbrev outcome_of : Bool → Result (Unit {0}) End
outcome_of stopped = cond stopped (Err Damaged) (Ok tt)

goes : (t : Bool) → outcome_of t ≡ Ok tt → t ≡ false
goes true is = cc
goes false is = refl

ends : {end : End} (t : Bool) → outcome_of t ≡ Err end → t ≡ true
ends true is = refl
ends false is = cc

module _ (room input output : List ℕ) (p : Progress) (there : p.window.start < p.window.end) (within : p.window.end ≤ length input) where
  -- The recorded step at the front of the unread bytes, and where it goes on in the buffer.
  abbrev step : Recorded
  step = recorded_step p.state room (unread_of input p) 0

  is_operated : next room input output p ≡ operated room (take p.window.end input) output p
  unfolding next
  is_operated = rw (lt-leb p.window.end p.window.start there, le-ltb (length input) p.window.end within)

  in_buffer : recorded_step p.state room (take p.window.end input) p.window.start ≡ moved_step p.window.start step
  in_buffer =
      let place : p.window.start ≡ p.window.start + 0 = omega arith in
      ap (recorded_step p.state room (take p.window.end input)) place ∙ step_moved p.state room (take p.window.end input) p.window.start 0

  after : ((next room input output p).progress.state ≡ step.result.state) × ((next room input output p).room ≡ step.result.room)
      × (unread_of input (next room input output p).progress ≡ drop step.next (unread_of input p))
      × ((next room input output p).outcome ≡ outcome_of (stops_reading step.result.answer))
  unfolding operated turn_of
  after =
      rw (is_operated, in_buffer) (refl, refl, sym (drop-drop step.next p.window.start (take p.window.end input)), refl)

  some : 0 < length (unread_of input p)
  some = simp (length-drop, length-take-le p.window.end input within) (omega arith)

  -- Where it goes on, what its turns print from there is printed behind its line.
  pub goes_on : {lines still : List ℕ} → Enough (unread_of input p) still → (next room input output p).outcome ≡ Ok tt
      → Turns (next room input output p).progress.state (next room input output p).room (unread_of input (next room input output p).progress) lines still
      → Turns p.state room (unread_of input p) (line_of step.result.answer ++ lines) still
  goes_on {lines} {still} enough going turns =
      let (state, left, unread, outcome) = after in
      replays {r = step} refl some enough (goes (stops_reading step.result.answer) (sym outcome ∙ going)) (rw (state, left, unread) at turns)

  -- Where it does not, its line is the last.
  pub goes_no_further : {still : List ℕ} {end : End} → Enough (unread_of input p) still → (next room input output p).outcome ≡ Err end
      → Turns p.state room (unread_of input p) (line_of step.result.answer) still
  goes_no_further enough ending = stops {r = step} refl some enough (ends (stops_reading step.result.answer) (sym after.3 ∙ ending))

  -- The line stands behind those before it.
  pub line_behind : p.used + 32 ≤ length output
      → ((next room input output p).output ≡ written output p.used (line_of step.result.answer))
      × ((next room input output p).progress.used ≡ p.used + length (line_of step.result.answer))
  unfolding operated turn_of line_written line_count
  line_behind fits = rw (is_operated, in_buffer, le-leb (p.used + 32) (length output) fits) (refl, refl)
