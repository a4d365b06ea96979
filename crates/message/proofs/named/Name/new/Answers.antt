-- What was copied to the front is the text's first bytes, and all of them where it has few.
use Rattle.std.proofs.Common.{◌≡◌, ℕ, List, ◌++◌, length, take, min, arith}
use Rattle.std.proofs.lemmas.Grind.{common_steps}
use Rattle.std.proofs.lemmas.List.{take-append-le, length-take, take_min, take_all}
use Rattle.message.proofs.named.Name.new.Goals as goal

front : (n most : ℕ) (text new others : List ℕ) → n ≡ min (length text) most → new ≡ take n text → take n (new ++ others) ≡ take most text
front n most text new others h e = grind (arith, common_steps, take-append-le, take_min, take_all, length-take)

pub returns : goal.returns
returns c = front _ 4096 c.args.text.now _ _ c.min-length.ensures c.copy_from_slice.ensures.after
