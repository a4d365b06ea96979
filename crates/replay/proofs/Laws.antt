-- An operation that is replayed keeps what was read and what waits within the buffers.
use Rattle.std.proofs.Common.{◌≡◌, ℕ, ◌≤◌, Bool, true, false, cond, ◌||◌, leb, ltb, List, length, take, Err, refl, arith}
use Rattle.recording.specs.RecordedStep.{recorded_step}
use Rattle.line.specs.Turn.{turn_of}
use Rattle.line.proofs.Laws.{used_within}
use Rattle.stream.specs.declared.Progress.{Progress}
use Rattle.stream.specs.declared.End.TheVariants.{Done}
use Rattle.stream.specs.Stream.{Standing, standing, operated, next as replayed}

-- By whether there is none.
abbrev by : Bool → List ℕ → List ℕ → List ℕ → Progress → Standing
by t room input output p = cond t (standing (Err Done) p room output) (operated room (take p.window.end input) output p)

pub keeps_within : (room input output : List ℕ) (p : Progress) → p.used ≤ length output
    → ((replayed room input output p).progress.window.end ≡ p.window.end) × ((replayed room input output p).progress.used ≤ length output)
unfolding replayed operated turn_of
keeps_within room input output p least =
    go (leb p.window.end p.window.start || ltb (length input) p.window.end)
  where
    go : (t : Bool) → ((by t room input output p).progress.window.end ≡ p.window.end) × ((by t room input output p).progress.used ≤ length output)
    go true = (refl, least)
    go false =
        (refl, omega (arith, used_within output p.used (recorded_step p.state room (take p.window.end input) p.window.start).result.answer, least))
