use Rattle.std.proofs.Common.{◌-◌, ◌<◌, ◌≤◌}
use Rattle.tree.specs.Answers.{places_of}
use Rattle.tree.specs.Cells.{Tree}
use Rattle.tree.proofs.Rows.{row, Ends}
use Rattle.tree.proofs.stretching.join_leaves.Given as goal

abbrev pub invariant-loop-low : goal.invariant-loop-low
invariant-loop-low g l =
    let j = g.S.Summary.joins in
    let n = places_of l.cells in
    (l.low ≤ l.high) × (l.high ≤ l.initial.high) × (0 < n → 0 < l.low)
    × (Tree j n l.cells → Ends j l.cells l.low l.high l.front l.back (row j l.cells l.initial.low (l.initial.high - l.initial.low)))

abbrev pub decreases-loop-low : goal.decreases-loop-low
decreases-loop-low g l = l.high - l.low
