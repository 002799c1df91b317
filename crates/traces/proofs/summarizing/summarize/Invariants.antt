use Rattle.std.proofs.Common.{◌≤◌, length, take}
use Rattle.std.specs.List.{AllByRecursion}
use Rattle.station.specs.Laws.{Gives}
use Rattle.traces.specs.Traces.{EntryCounts, piece_summary}
use Rattle.traces.proofs.summarizing.summarize.Given as goal

abbrev pub invariant-loop-entry : goal.invariant-loop-entry
invariant-loop-entry g l =
    let j = g.K.Summary.joins in
    let k = g.K.Station.rules in
    (l.entry-index ≤ length l.trace)
    × (AllByRecursion (EntryCounts k) l.trace → Gives j.is_summary (piece_summary j k (take l.entry-index l.trace)) l.sum)
