use Rattle.std.proofs.Common.{◌≡◌, ◌≤◌}
use Rattle.tree.specs.Levels.{LevelJoined}
use Rattle.tree.proofs.Levels.{Unjoined}
use Rattle.tree.proofs.rejoining.join_level.Given as goal

abbrev pub invariant-loop-k : goal.invariant-loop-k
invariant-loop-k g l =
    let low = l.fn.level.start in
    let high = l.fn.level.end in
    (low ≤ l.k-iterator.start) × (l.k-iterator.end ≡ high) × LevelJoined g.S.Summary.joins low high (Unjoined low high l.k-iterator.start) l.initial.cells l.cells
