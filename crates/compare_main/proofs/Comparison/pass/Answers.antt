-- As many of the first as of the second, or the pair that stands next.
use Rattle.std.proofs.Common.{◌≤◌, take, sym, ap, ◌∙◌, subst, arith}
use Rattle.recording.specs.declared.Passage.{Passage}
use Rattle.recording.specs.Run.{passed_from}
use Rattle.input.specs.Input.{at_once}
use Rattle.recording.proofs.Passes.{ends, as_many}
use Rattle.compare_main.specs.Pair.{passed}
use Rattle.compare_main.proofs.Comparison.pass.Goals as goal

pub returns-then-s-q : goal.returns-then-s-q
returns-then-s-q c =
    let first = take c.args.self.now.pair.first.end c.args.self.now.first.bytes in
    let place = c.args.self.now.pair.first.start in
    let few : c.passage-s.result.count ≤ (passed_from at_once first place).count
    = subst (λ (q : Passage). c.passage-s.result.count ≤ q.count) c.passage-q.ensures (omega (arith, c.if-s-q.true)) in
    let same = ap (λ (q : Passage). q.count) c.passage-fewer.ensures ∙ as_many first c.passage-s.result.count at_once place few in
    passed c.requires _ _ c.passage-fewer.result c.passage-s.result c.passage-fewer.ensures c.passage-s.ensures same c.moved.ensures

pub returns : goal.returns
returns c =
    let p = c.args.self.now.pair in
    let most = (ends (take p.second.end c.args.self.now.second.bytes) c.passage-q.result.count p.second.start).at_most in
    let few : c.passage-s.result.count ≤ c.passage-q.result.count
    = subst (λ (q : Passage). q.count ≤ c.passage-q.result.count) (sym c.passage-s.ensures) most in
    passed c.requires _ _ c.passage-q.result c.passage-s.result c.passage-q.ensures c.passage-s.ensures (omega (arith, few, c.if-s-q.false)) c.moved-2.ensures
