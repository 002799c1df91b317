use Rattle.std.proofs.Common.{◌≤◌, ◌*◌}
use Rattle.tree.specs.Answers.{places_of}
use Rattle.tree.specs.Levels.{Above}
use Rattle.tree.proofs.Levels.{Climbed, OneLevel}
use Rattle.tree.proofs.rejoining.rejoin.Given as goal

abbrev pub invariant-loop-low : goal.invariant-loop-low
invariant-loop-low g l =
    (l.high ≤ 2 * places_of l.initial.cells) × OneLevel l.low l.high
    × Climbed g.S.Summary.joins (places_of l.initial.cells) (Above l.initial.low l.initial.high) (Above l.low l.high) l.initial.cells l.cells

abbrev pub decreases-loop-low : goal.decreases-loop-low
decreases-loop-low g l = l.low
