use Rattle.std.proofs.Common.{◌+◌, set, Ok, subst}
use Rattle.tree.specs.Answers.{placed, Writes}
use Rattle.tree.proofs.Writings.{above_written, in_place, set_alike}
use Rattle.tree.proofs.leaves.write_leaf.Goals as goal

pub returns : goal.returns
returns g c =
    let j = g.S.Summary.joins in
    let cells = c.args.cells.now in
    let place = c.args.place in
    let at = c.in_ok-at.at in
    let leaf = c.args.leaf in
    let fit = placed cells place in
    let after = c.rejoin.new.cells in
    subst (λ k. Writes j fit cells (set cells k leaf) after (Ok tt)) c.in_ok-at.ensures.is
    (above_written j fit at (at + 1) cells (set cells at leaf) after (in_place j cells place c.in_ok-at.ensures.placed) (set_alike j cells at leaf) c.rejoin.ensures)
