use Rattle.std.proofs.Common.{◌≡◌, ◌-◌, ◌*◌, ◌++◌, length, take}
use Rattle.std.specs.List.{flat_map}
use Rattle.byte_fields.specs.Unused.{zeros}
use Rattle.block.proofs.items.lay_items.Given as goal

abbrev pub invariant-loop-index : goal.invariant-loop-index
invariant-loop-index g l =
    let laid = flat_map g.K.Recorded.records.written (take l.index l.items) in
    record {
      size : length laid ≡ 16 * l.index;
      is : l.content ≡ laid ++ zeros (496 - 16 * l.index);
    }
