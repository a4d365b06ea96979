-- The running count, one accepted operation on: document 01, "Cycles"; docs/MANUAL.md, "Cycles".
use Rattle.std.specs.Prelude.{ℕ, ◌+◌, min, Bool, cond}
use Rattle.state.specs.declared.Running.{Running}
use Rattle.state.specs.Sound.{cap}

-- The operation's cycles are added, and the count stands still at the cap, which already exceeds the counter (R_XGSSZ). On
-- an occasion the next count becomes unknown, and stays so until a record takes it. (A reset drops the count and its own
-- cycles: `Change.running_after`.)
abbrev pub ran : Running → Bool → ℕ → Running
ran r occasion cycles = record { count = min (r.count + cycles) cap; unknown = cond occasion 1 r.unknown }
