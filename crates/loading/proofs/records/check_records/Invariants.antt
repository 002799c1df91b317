use Rattle.std.proofs.Common.{◌≡◌, drop}
use Rattle.loading.specs.Loading.{checked, read_from, record_items}
use Rattle.loading.proofs.records.check_records.Given as goal

abbrev pub invariant-loop-index : goal.invariant-loop-index
invariant-loop-index g l =
    let r = g.K.Recorded.records in
    checked (read_from r.reading l.index-counter (drop l.index-counter l.chunks)) ≡ checked (record_items r l.records)
