use Rattle.std.proofs.Common.{◌≡◌, List, map, length, Ok}
use lib.Seq.{paste}
use Rattle.loading.specs.Loading.{record_items}
use Rattle.run.proofs.run.loading_blocks.lay_records.Given as goal

abbrev pub invariant-loop-index : goal.invariant-loop-index
invariant-loop-index g l =
    (length l.cells ≡ length l.initial.cells)
    × ((is : List g.row.K-Item.Denot) → record_items g.K.Recorded.records l.records ≡ Ok is
    → l.cells ≡ paste l.initial.cells l.place (map g.K.Station.rules.of_item is) l.index)
