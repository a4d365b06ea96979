-- What ends with the text has a known code.
use Rattle.std.proofs.Common.{sym, ap, ◌∙◌, Ok}
use Rattle.notation.proofs.Reading.{ended_known}
use Rattle.pack.proofs.Packing.finish.Goals as goal

pub put_operation-requires : goal.put_operation-requires
put_operation-requires c =
    ended_known c.args.self.now.begun c.args.self.now.end c.in-Operation.x c.in-Operation.field-1 (sym c.ended.ensures ∙ c.in_ok-x.was ∙ ap (λ step. Ok step) c.in-Operation.is)
