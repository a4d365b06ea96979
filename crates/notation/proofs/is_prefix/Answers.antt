-- The text's first two bytes tell whether the word starts with 0x.
use native.Mathlib.Omega.{arith}
use Rattle.notation.proofs.Words.{prefix_told, prefix_short}
use Rattle.notation.proofs.is_prefix.Goals as goal

pub returns-then-bytes-at-lt2 : goal.returns-then-bytes-at-lt2
returns-then-bytes-at-lt2 c =
    prefix_short c.args.bytes.now c.args.at (omega arith) (omega arith)

pub returns : goal.returns
returns c =
    prefix_told c.args.bytes.now c.args.at (omega arith)
