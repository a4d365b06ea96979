use Rattle.std.proofs.Common.{rules}
use Rattle.notation.proofs.Words.{last_separating, none_separating}
use Rattle.notation.proofs.whole_words.Goals as goal

pub returns-in-Some : goal.returns-in-Some
returns-in-Some c =
    last_separating c.args.bytes.now c.in-Some.last (search rules) (search rules) (search rules)

pub returns-in-None : goal.returns-in-None
returns-in-None c =
    none_separating c.args.bytes.now (search rules)
