use Rattle.std.proofs.Common.{subst, arith, take_all}
use Rattle.station.specs.Laws.{Gives}
use Rattle.traces.specs.Traces.{piece_summary}
use Rattle.traces.proofs.Pieces.{summarizes, summarize_turn}
use Rattle.traces.proofs.summarizing.summarize.Goals as goal

pub loop-entry-preserved : goal.loop-entry-preserved
loop-entry-preserved g c = (
  omega arith,
  summarize_turn g.met.K.Summary.laws g.met.K.Station.steps g.met.K.Station.agreement
      c.args.trace.now c.loop-entry.entry-index c.entry-item.result c.entry_summary.result c.loop-entry.sum c.join-sum.result
      c.loop-entry-test.true c.entry-item.is c.loop-entry.invariant.1 c.entry_summary.ensures c.join-sum.ensures,
)

pub returns : goal.returns
returns g c all =
    let j = g.K.Summary.joins in
    let k = g.K.Station.rules in
    summarizes g.met.K.Summary.laws g.met.K.Station.steps g.met.K.Station.agreement c.args.trace.now c.loop-entry.sum all
    (subst (λ l. Gives j.is_summary (piece_summary j k l) c.loop-entry.sum) (take_all _ _ c.loop-entry-test.false) (c.loop-entry.invariant.1 all))
