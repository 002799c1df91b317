use Rattle.std.proofs.Common.{◌≡◌, ◌+◌, set, sym, ap, ◌∙◌, subst, arith}
use Rattle.std.proofs.lemmas.List.{get_or_read}
use Rattle.tree.specs.Answers.{places_of}
use Rattle.tree.specs.Cells.{cell}
use Rattle.tree.proofs.Writings.{first_written}
use Rattle.tree.proofs.trying.try_leaf.Goals as goal

pub returns : goal.returns
returns g c =
    let j = g.S.Summary.joins in
    let cells = c.args.cells.now in
    let place = c.args.place in
    let at = c.in_ok-at.ensures in
    let kept = c.index-cells-at.result in
    let leaf = c.args.leaf in
    let read : kept ≡ cell j cells (places_of cells + place) =
    get_or_read cells c.in_ok-at.at kept (omega arith) c.index-cells-at.is j.empty ∙ ap (cell j cells) at.is in
    first_written j place cells kept leaf _ c.write_leaf.new.cells c.write_leaf.result at.placed
    (λ t. subst j.is_summary (sym read) (t.counts (places_of cells + place) (omega arith)))
    (ap (λ x. set (set cells 0 x) (places_of cells + place) leaf) read) c.write_leaf.ensures
