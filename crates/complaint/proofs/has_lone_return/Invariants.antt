-- What is left of the bytes, behind the last that was looked at, has such a return exactly if all of them do.
use Rattle.std.proofs.Common.{◌≡◌, false, drop, take}
use Rattle.complaint.specs.Returns.{lone_return}
use Rattle.complaint.proofs.has_lone_return.Given as goal

abbrev pub invariant-loop-byte : goal.invariant-loop-byte
invariant-loop-byte l =
    lone_return l.after (drop l.byte-index l.byte-items) ≡ lone_return false (drop l.from (take l.to l.bytes))
