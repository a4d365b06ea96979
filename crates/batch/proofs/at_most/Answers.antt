-- Whether at most so many operations are answered: a short run has no more, and of another they are counted.
use native.Mathlib.Omega.{arith}
use mathlib.Core.Path.{sym}
use borrow.Author.Tests.{le-leb}
use lib.ListN.{length}
use Rattle.std.proofs.Common.{rules}
use Rattle.recording.specs.Run.{readings}
use Rattle.recording.proofs.Run.{half}
use Rattle.batch.proofs.Most.{fewer, as_many}
use Rattle.batch.proofs.at_most.Goals as goal

pub returns-then-bytes-most : goal.returns-then-bytes-most
unfolding readings
returns-then-bytes-most c =
    let a = c.args in
    let bytes = a.bytes.now in
    sym (le-leb (length (readings bytes)) a.most (omega (arith, half (length bytes) bytes 0)))

pub returns-then-p-most : goal.returns-then-p-most
returns-then-p-most c =
    let a = c.args in
    rw (le-leb (length (readings a.bytes.now)) a.most (fewer a.bytes.now a.most c.pass-p.result c.pass-p.ensures (omega arith) (omega arith))) (search rules)

pub returns-else-p-most : goal.returns-else-p-most
returns-else-p-most c =
    let a = c.args in as_many a.bytes.now a.most c.pass-p.result c.pass-p.ensures (omega arith) (omega arith)
