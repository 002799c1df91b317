use Rattle.std.proofs.Common.{◌≡◌, ◌+◌, ◌/◌, ◌≤◌, length, refl, arith, rules}
use Rattle.tree.specs.Answers.{places_of}
use Rattle.tree.specs.Levels.{Above}
use Rattle.tree.proofs.Capacities.{capacity_room}
use Rattle.tree.proofs.Levels.{climbed_more, level_above, level_top, leaves_level}
use Rattle.tree.proofs.Writings.{above_none, joined_above}
use Rattle.tree.proofs.rejoining.rejoin.Goals as goal

pub loop-low-init : goal.loop-low-init
loop-low-init g c =
    let cells = c.args.cells.now in (
      c.requires.last,
      leaves_level (length cells) (places_of cells) c.args.leaves.start c.args.leaves.end (capacity_room (length cells)) c.requires.first c.requires.last,
      record { long = refl; others = λ k h. refl; tree = λ t. t },
    )

pub join_level-requires : goal.join_level-requires
join_level-requires g c =
    let held = (capacity_room (length c.args.cells.now)).held in
    let last = c.loop-low.invariant.0 in
    omega (arith, c.loop-low.auto.cells, c.div_ceil-high.ensures)

pub loop-low-preserved : goal.loop-low-preserved
loop-low-preserved g c =
    let l = c.loop-low in
    let cells = c.args.cells.now in
    let held = (capacity_room (length cells)).held in
    let last = l.invariant.0 in
    let below = c.loop-low-test.true in
    let half : c.div_ceil-high.result ≡ (l.high + 1) / 2 = omega (arith, c.div_ceil-high.ensures) in (
      omega arith,
      level_above l.low l.high c.div_ceil-high.result half l.invariant.1,
      climbed_more g.S.Summary.joins (places_of cells) (Above c.args.leaves.start c.args.leaves.end) l.low l.high c.div_ceil-high.result cells l.cells c.join_level.new.cells
          half (omega arith) last (omega (arith, l.auto.cells)) c.join_level.ensures l.invariant.2,
    )

pub returns-then-is_empty : goal.returns-then-is_empty
returns-then-is_empty g c = above_none g.S.Summary.joins c.args.leaves.start c.args.leaves.end c.args.cells.now (search rules)

pub returns : goal.returns
returns g c =
    let l = c.loop-low in
    let root : l.low ≤ 1 = omega (arith, c.loop-low-test.false) in
    joined_above g.S.Summary.joins c.args.leaves.start c.args.leaves.end l.low l.high c.args.cells.now l.cells c.requires.first root
    (level_top l.low l.high root l.invariant.1) l.invariant.2
