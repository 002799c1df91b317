use Rattle.std.proofs.Common.{subst, arith, take_all}
use Rattle.station.specs.Laws.{Gives}
use Rattle.traces.specs.Lists.{gathered}
use Rattle.traces.proofs.Folds.{gather_turn}
use Rattle.traces.proofs.Groupings.{gathers}
use Rattle.traces.proofs.joining.gather.Goals as goal

pub loop-next-preserved : goal.loop-next-preserved
loop-next-preserved g c = (
  omega arith,
  gather_turn g.met.S.Summary.laws c.args.summaries.now c.loop-next.next-index c.next-item.result c.loop-next.sum c.join-sum.result
      c.loop-next-test.true c.next-item.is c.loop-next.invariant.1 c.join-sum.ensures,
)

pub returns : goal.returns
returns g c all =
    let j = g.S.Summary.joins in
    gathers g.met.S.Summary.laws c.args.summaries.now c.loop-next.sum all
    (subst (λ l. Gives j.is_summary (gathered j l) c.loop-next.sum) (take_all _ _ c.loop-next-test.false) (c.loop-next.invariant.1 all))
