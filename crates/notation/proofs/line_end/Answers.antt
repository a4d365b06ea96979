use Rattle.std.proofs.Common.{drop}
use Rattle.notation.proofs.Words.{line_place}
use Rattle.notation.proofs.line_end.Goals as goal

pub returns : goal.returns
returns c =
    rw (c.line_length.ensures.value, c.from_place.ensures, line_place (drop c.args.at c.args.bytes.now))
