use Rattle.std.proofs.Common.{◌≡◌, ◌++◌, drop, sym, ap, ◌∙◌, subst, arith}
use Rattle.std.specs.List.{AllByRecursion}
use Rattle.std.proofs.lemmas.List.{take_all, drop_all, append-nil}
use Rattle.traces.specs.Lists.{prefixes}
use Rattle.traces.proofs.Folds.{prefix_turn, prefixes_count}
use Rattle.traces.proofs.joining.prefix.Goals as goal

pub loop-place-preserved : goal.loop-place-preserved
loop-place-preserved g c = (
  omega arith,
  prefix_turn g.met.S.Summary.laws c.args.summaries.now c.loop-place.place-index c.loop-place.summaries c.place-item.result c.loop-place.front c.join-front.result
      c.loop-place-test.true c.place-item.is c.loop-place.invariant.1 c.join-front.ensures,
)

pub returns : goal.returns
returns g c =
    let j = g.S.Summary.joins in
    let old = c.args.summaries.now in
    let i = c.loop-place.place-index in
    let is : AllByRecursion j.is_summary old → c.loop-place.summaries ≡ prefixes j old =
    λ all. (c.loop-place.invariant.1 all).1
    ∙ ap (λ r. prefixes j r ++ drop i old) (take_all i old c.loop-place-test.false)
    ∙ ap (λ r. prefixes j old ++ r) (drop_all i old c.loop-place-test.false)
    ∙ append-nil _ in
    record {
      joins = is;
      counts = λ all. subst (AllByRecursion j.is_summary) (sym (is all)) (prefixes_count g.met.S.Summary.laws old all);
    }
