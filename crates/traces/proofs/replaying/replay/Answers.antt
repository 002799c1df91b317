use Rattle.std.proofs.Common.{arith}
use Rattle.traces.proofs.Folds.{replay_turn}
use Rattle.traces.proofs.replaying.replay.Goals as goal

pub loop-item-preserved : goal.loop-item-preserved
loop-item-preserved g c = (
  omega arith,
  replay_turn g.met.K.Station.steps
      c.args.items.now c.loop-item.item-index c.item-item.result c.args.start c.loop-item.state c.step-state.result
      c.loop-item-test.true c.item-item.is c.loop-item.invariant.1 c.step-state.ensures,
)
