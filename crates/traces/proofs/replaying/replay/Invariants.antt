use Rattle.std.proofs.Common.{◌≤◌, length, take}
use Rattle.std.specs.List.{AllByRecursion}
use Rattle.station.specs.Laws.{Gives}
use Rattle.traces.specs.Traces.{replayed}
use Rattle.traces.proofs.replaying.replay.Given as goal

abbrev pub invariant-loop-item : goal.invariant-loop-item
invariant-loop-item g l =
    let k = g.K.Station.rules in
    (l.item-index ≤ length l.items)
    × (k.is_state l.initial.state → AllByRecursion k.is_item l.items → Gives k.is_state (replayed k l.initial.state (take l.item-index l.items)) l.state)
