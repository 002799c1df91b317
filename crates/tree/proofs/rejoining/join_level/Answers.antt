use Rattle.std.proofs.Common.{◌≡◌, ◌+◌, set, sym, subst, arith}
use Rattle.tree.specs.Levels.{LevelJoined}
use Rattle.tree.proofs.Levels.{Unjoined, level_all, level_more}
use Rattle.tree.proofs.rejoining.join_level.Goals as goal

pub loop-k-preserved : goal.loop-k-preserved
loop-k-preserved g c =
    let j = g.S.Summary.joins in
    let l = c.loop-k in
    let steps = c.in-Some.ensures.steps in
    let k = c.in-Some.k in
    let low = c.args.level.start in
    let high = c.args.level.end in
    let next : k + 1 ≡ c.next.new.self.start = omega arith in
    let room = c.requires in (
      omega arith,
      omega arith,
      subst (λ m. LevelJoined j low high (Unjoined low high m) c.args.cells.now (set l.cells k c.join.result)) next
          (level_more g.met.S.Summary.laws low high k c.args.cells.now l.cells
          c.index-cells-k.result c.index-cells-k-in-loop-k.result c.join.result (omega arith) (omega arith) (omega (arith, l.auto.cells))
          c.index-cells-k.is c.index-cells-k-in-loop-k.is c.join.ensures
          (subst (λ m. LevelJoined j low high (Unjoined low high m) c.args.cells.now l.cells) (sym steps.1.1) l.invariant.2)),
    )

pub returns : goal.returns
returns g c = let steps = c.in-None.ensures.steps in level_all g.S.Summary.joins c.args.level.start c.args.level.end c.loop-k.k-iterator.start (omega arith) c.loop-k.invariant.2
