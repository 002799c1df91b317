use Rattle.std.proofs.Common.{◌≤◌, length, take}
use Rattle.std.specs.List.{AllByRecursion}
use Rattle.station.specs.Laws.{Gives}
use Rattle.traces.specs.Lists.{gathered}
use Rattle.traces.proofs.joining.gather.Given as goal

abbrev pub invariant-loop-next : goal.invariant-loop-next
invariant-loop-next g l =
    let j = g.S.Summary.joins in
    (l.next-index ≤ length l.summaries)
    × (AllByRecursion j.is_summary l.summaries → Gives j.is_summary (gathered j (take l.next-index l.summaries)) l.sum)
