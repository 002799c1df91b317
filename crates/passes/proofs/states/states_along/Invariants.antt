use Rattle.std.proofs.Common.{◌-◌, vec_items}
use Rattle.passes.proofs.Along.{AlongFirst}
use Rattle.passes.proofs.states.states_along.Given as goal

abbrev pub invariant-loop-count : goal.invariant-loop-count
invariant-loop-count g l = AlongFirst g.K.Summary.joins g.K.Station.rules l.run l.start (l.count - 1) (vec_items l.states)
