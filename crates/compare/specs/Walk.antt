-- How two recordings are read together, pair by pair, and what is answered where that ends. docs/MANUAL.md, "Comparing recordings".
use Rattle.std.specs.Prelude.{◌≡◌, ℕ, ◌+◌, ◌-◌, ◌/◌, ◌%◌, ◌^◌, ◌<◌, ◌≤◌, Bool, true, false, cond, ◌&&◌, ◌≢◌, List, length, ◌==◌, nat_le, nat_lt, slice_index}
use Rattle.recording.specs.declared.Passage.{Passage}
use Rattle.recording.specs.Recording.{Reading}
use Rattle.recording.specs.Recording.{operation_at}
use Rattle.recording.specs.Run.{read_from, passed_from}
use Rattle.std.specs.Prelude.{Option, Some, None}
use Rattle.recording.specs.declared.Damage.{Damage}
use Rattle.compare.specs.declared.Parting.{Parting}
use Rattle.compare.specs.declared.Leap.{Leap}
use Rattle.compare.specs.declared.Walk.{Walk}
use Rattle.compare.specs.Compare.{differing, first_bad, rest, good}
use Rattle.std.specs.Prelude.{Ok, Err}

-- Before the first pair.
abbrev pub begun : Walk
begun = record { at = 0; other = 0; equal = 0; differing = 0; going = true }

-- With a pair that cannot be read.
abbrev pub stopped_at : Walk → Walk
stopped_at w = record { at = w.at; other = w.other; equal = w.equal; differing = w.differing; going = false }

-- After a pair that was read, in which this differs, and the places behind it: it is counted where it and all before it are equal,
-- and what differs is kept where it is the first that is not. (The count is one of 64 bits, which no recording passes.)
unfoldable pub met : ℕ → ℕ → ℕ → Walk → Walk
met difference next after w =
    record {
      at = next;
      other = after;
      equal = cond (w.differing == 0 && difference == 0) ((w.equal + 1) % 2 ^ 64) w.equal;
      differing = cond (w.differing == 0) difference w.differing;
      going = true;
    }

-- After a turn, by what was read of the one and of the other.
abbrev pub turned : Reading → Reading → Walk → Walk
turned (Ok (x, next)) (Ok (y, after)) w = met (differing x y) next after w
turned (Ok (x, next)) (Err d) w = stopped_at w
turned (Err d) other w = stopped_at w

-- At other places, with all else as it was.
abbrev pub moved_to : ℕ → ℕ → Bool → Walk → Walk
moved_to at other going w = record { at = at; other = other; equal = w.equal; differing = w.differing; going = going }

-- Behind so many equal pairs.
abbrev pub over_equal : ℕ → ℕ → ℕ → Walk → Walk
over_equal at other count w = record { at = at; other = other; equal = (w.equal + count) % 2 ^ 64; differing = w.differing; going = true }

-- How many operations are passed at once at most.
abbrev pub at_once : ℕ
at_once = 1024

-- As many operations of the second as of the first are passed, or of the first as of the second where that has fewer. The walk ends
-- where one of them stopped.
abbrev pub passed_alike : List ℕ → Passage → Passage → Bool → Walk → Walk
passed_alike a first second going w =
    cond (nat_lt second.count first.count) (moved_to (passed_from second.count a w.at).at second.at false w)
    (moved_to first.at second.at going w)

-- Both passed, at most so many operations of each.
unfoldable pub passed_both : ℕ → List ℕ → List ℕ → Walk → Walk
passed_both most a b w =
    passed_alike a (passed_from most a w.at) (passed_from (passed_from most a w.at).count b w.other) (nat_le most (passed_from most a w.at).count) w

-- There are bytes from `at` to `next` in the one, and they stand from `other` on in the other too.
pub record SameBytes (a : List ℕ) (at next : ℕ) (b : List ℕ) (other : ℕ) : Type 0 where
  pub some : at < next
  pub here : next ≤ length a
  pub there : other + (next - at) ≤ length b
  pub same : (i : ℕ) → at + i < next → slice_index a (at + i) ≡ slice_index b (other + i)

-- What a turn does: it passes both behind an unequal pair; or reads the pair; or passes operations of the first whose bytes stand in
-- the second too; or goes on to try fewer.
pub data Turned (a b : List ℕ) (l r : Leap) : Type 0 where
  passed : l.walk.differing ≢ 0 → r ≡ record { walk = passed_both at_once a b l.walk; most = l.most } → Turned a b l r
  paired : r ≡ record { walk = turned (operation_at a l.walk.at) (operation_at b l.walk.other) l.walk; most = at_once } → Turned a b l r
  leapt : l.walk.differing ≡ 0 → (p : Passage) → p ≡ passed_from l.most a l.walk.at → SameBytes a l.walk.at p.at b l.walk.other
      → r ≡ record { walk = over_equal p.at (l.walk.other + (p.at - l.walk.at)) p.count l.walk; most = l.most } → Turned a b l r
  fewer : l.most ≢ 0 → r ≡ record { walk = l.walk; most = l.most / 2 } → Turned a b l r

-- What is wrong with what was read.
abbrev pub bad_of_reading : Reading → Option Damage
bad_of_reading (Ok (x, next)) = None
bad_of_reading (Err d) = Some d

-- A recording's first bad number from a place on.
unfoldable pub bad_from : List ℕ → ℕ → Option Damage
bad_from bytes at = first_bad (read_from (length bytes - at) bytes at)

-- What is answered where the walk ended and neither has a bad number, by how many bytes the two have: one of them at least has
-- ended at its place.
unfoldable pub ended : ℕ → ℕ → Walk → Parting
ended first second w =
    good w.equal (cond (nat_lt w.other second) 1 (cond (nat_lt w.at first) 2 0)) w.differing
    (cond (nat_lt w.other second) (rest 2 w.other second) (rest 1 w.at first))
