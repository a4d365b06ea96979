-- What is read in a part of the bytes has a known code, as whatever is read.
use Rattle.std.proofs.Common.{sym, ◌∙◌}
use Rattle.notation.proofs.Reading.{read_known}
use Rattle.pack.proofs.read_within.Goals as goal

pub returns : goal.returns
returns c =
    λ x at e. read_known _ _ _ _ x at (sym c.read_on.ensures ∙ e)
