use Rattle.std.proofs.Common.{◌≡◌, ◌≤◌, ◌++◌, length, take, drop}
use Rattle.std.specs.List.{AllByRecursion}
use Rattle.station.specs.Laws.{Gives}
use Rattle.traces.specs.Lists.{gathered, prefixes}
use Rattle.traces.proofs.joining.prefix.Given as goal

abbrev pub invariant-loop-place : goal.invariant-loop-place
invariant-loop-place g l =
    let j = g.S.Summary.joins in
    (l.place-index ≤ length l.initial.summaries)
    × (AllByRecursion j.is_summary l.initial.summaries
    → Gives j.is_summary (gathered j (take l.place-index l.initial.summaries)) l.front
    × (l.summaries ≡ prefixes j (take l.place-index l.initial.summaries) ++ drop l.place-index l.initial.summaries))
