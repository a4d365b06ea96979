-- Two inputs that are read together, pair by pair. docs/MANUAL.md, "Programs".
use Rattle.std.specs.Prelude.{◌≡◌, ℕ, ◌+◌, ◌-◌, ◌%◌, ◌^◌, cond, ◌≢◌, List, ◌==◌}
use Rattle.recording.specs.declared.Numbers.{Numbers}
use Rattle.recording.specs.declared.Passage.{Passage}
use Rattle.recording.specs.Recording.{Reading}
use Rattle.recording.specs.Recording.{operation_at}
use Rattle.recording.specs.Run.{passed_from}
use Rattle.compare.specs.Compare.{differing}
use Rattle.compare.specs.Walk.{met, over_equal, SameBytes, ended}
use Rattle.compare.specs.Walk as walk
use Rattle.comparison.specs.declared.Told.{Told}
use Rattle.input.specs.declared.Window.{Window}
use Rattle.input.specs.Input.{passed_at, place_of, at_once}
use Rattle.compare_main.specs.declared.Pair.{Pair}
use Rattle.std.specs.Prelude.{Ok, Err}

-- After a pair that was read: both windows stand behind it, the walk has it, and it is kept where it is the first that is unequal.
-- (Until one is, the last pair that was read is kept.)
abbrev pub met_at : Numbers → ℕ → Numbers → ℕ → Pair → Pair
met_at x next y after p =
    record {
      first = passed_at next 1 p.first;
      second = passed_at after 1 p.second;
      walk = met (differing x y) (place_of (passed_at next 1 p.first)) (place_of (passed_at after 1 p.second)) p.walk;
      x = cond (p.walk.differing == 0) x p.x;
      y = cond (p.walk.differing == 0) y p.y;
    }

-- Where a pair cannot be read the walk ends.
abbrev pub ended_at : Pair → Pair
ended_at p = record { first = p.first; second = p.second; walk = walk.stopped_at p.walk; x = p.x; y = p.y }

-- By what was read of the one and of the other.
abbrev pub pair_at : Reading → Reading → Pair → Pair
pair_at (Ok (x, next)) (Ok (y, after)) p = met_at x next y after p
pair_at (Ok (x, next)) (Err d) p = ended_at p
pair_at (Err d) other p = ended_at p

-- Behind so many operations of both, of which so many are equal pairs.
abbrev pub moved_pair : ℕ → ℕ → ℕ → ℕ → Pair → Pair
moved_pair next after count equal p =
    record {
      first = passed_at next count p.first;
      second = passed_at after count p.second;
      walk = over_equal (place_of (passed_at next count p.first)) (place_of (passed_at after count p.second)) equal p.walk;
      x = p.x;
      y = p.y;
    }

-- What a turn does, by what of the two is there: operations of the first whose bytes stand in the second too are as many equal pairs;
-- behind an unequal pair as many are passed of the one as of the other; or the pair that stands next is read.
pub data Moved (a b : List ℕ) (p r : Pair) : Type 0 where
  leapt : p.walk.differing ≡ 0 → (q : Passage) → q ≡ passed_from at_once a p.first.start → SameBytes a p.first.start q.at b p.second.start
      → r ≡ moved_pair q.at (p.second.start + (q.at - p.first.start)) q.count q.count p → Moved a b p r
  passed : p.walk.differing ≢ 0 → (most fewer : ℕ) (q s : Passage) → q ≡ passed_from most a p.first.start → s ≡ passed_from fewer b p.second.start → q.count ≡ s.count
      → r ≡ moved_pair q.at s.at s.count 0 p → Moved a b p r
  paired : r ≡ pair_at (operation_at a p.first.start) (operation_at b p.second.start) p → Moved a b p r

-- How many more of two counts the one has, modulo 2^64, as both are counted.
abbrev pub more_of : ℕ → ℕ → ℕ
more_of count than = (count + 2 ^ 64 - than) % 2 ^ 64

-- What is told where both were read to their ends, after so many pairs: how many operations are left of the longer is what it has
-- more than pairs.
abbrev pub told_of : Window → Window → Pair → Told
told_of first second p =
    record {
      parting = ended (place_of first) (place_of second) p.walk;
      x = p.x;
      y = p.y;
      left = more_of (cond ((ended (place_of first) (place_of second) p.walk).ending == 1) second.operations first.operations) p.first.operations;
    }
