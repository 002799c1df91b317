use Rattle.std.proofs.Common.{◌≡◌, ◌+◌, set, ap, ◌∙◌, subst, arith}
use Rattle.std.proofs.lemmas.List.{get_or_read, set_comm}
use Rattle.tree.specs.Answers.{places_of, placed, with_leaf, Writes}
use Rattle.tree.specs.Cells.{cell}
use Rattle.tree.proofs.Writings.{first_written}
use Rattle.tree.proofs.trying.restore_leaf.Goals as goal

pub returns : goal.returns
returns g c =
    let j = g.S.Summary.joins in
    let cells = c.args.cells.now in
    let place = c.args.place in
    let at = places_of cells + place in
    let is = c.in_ok-leaf_of.ensures in
    let kept = c.index-cells-0.result in
    let after = c.write_leaf.new.cells in
    let r = c.write_leaf.result in
    let read : kept ≡ cell j cells 0 = get_or_read cells 0 kept (omega arith) c.index-cells-0.is j.empty in
    first_written j place cells j.empty kept _ after r is.placed
    (λ t. g.met.S.Summary.laws.empty_counts)
    (set_comm cells 0 at j.empty kept (λ e. omega arith) ∙ ap (λ x. set (set cells at x) 0 j.empty) read)
    (subst (λ xs. Writes j (placed xs place) xs (with_leaf xs place kept) after r) c.release_leaf.ensures c.write_leaf.ensures)
