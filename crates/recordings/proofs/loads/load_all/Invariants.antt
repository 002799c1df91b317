use Rattle.std.proofs.Common.{◌≡◌, ◌+◌, ℕ, List, []}
use Rattle.run.specs.Standing.{Met, terms_of}
use Rattle.recordings.specs.Hand.{at_hand, read_count, unread}
use Rattle.recordings.proofs.Loading.{Loading}
use Rattle.recordings.proofs.loads.load_all.Given as goal

abbrev pub invariant-loop-index : goal.invariant-loop-index
invariant-loop-index g l =
    let j = g.K.Summary.joins in
    let k = g.K.Station.rules in
    let records = g.K.Recorded.records in
    let left = unread g.R.Read.remaining in
    record {
      loading : (given : List g.row.K.Denot) (number : ℕ) → Met j k records given number [] l.initial.run
          → Loading j k given (terms_of given number records) l.initial.index (read_count l.initial.blocks) (at_hand l.initial.blocks) l.index (read_count l.blocks) (at_hand l.blocks)
          (left l.initial.blocks) (left l.blocks) l.run;
      counted : read_count l.initial.blocks + l.index ≡ read_count l.blocks + l.initial.index;
    }
