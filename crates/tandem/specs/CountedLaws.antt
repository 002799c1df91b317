-- The laws of a counted job's record.
use Rattle.std.specs.Prelude.{◌≡◌, ℕ, List, [], ◌++◌, drop, Ok, Err, Result, refl}
use Rattle.std.proofs.Common.{ap, subst, ◌∙◌, arith, rules}
use Rattle.std.proofs.lemmas.List.{append-nil, drop_all}
use Rattle.station.specs.Records.{IsRecord, RecordLaws}
use Rattle.station.specs.Pairs.{pair, pair_rules}
use Rattle.station.specs.declared.pairing.Pair.{Pair}
use Rattle.station.specs.declared.records.RecordFault.{RecordFault}
use Rattle.byte_fields.specs.Numbers.{digits, field}
use Rattle.byte_fields.proofs.NumberLaws.{digits_small, append_small}
use Rattle.byte_fields.proofs.Layouts.{field_first}
use Rattle.counts.specs.Counts.{frame_count, count_rules}
use Rattle.counts.specs.Records.{placed_frame_count}
use Rattle.counts.specs.declared.frames.FrameCount.{FrameCount}
use Rattle.counts.specs.FrameRecords as frames
use Rattle.tandem.specs.Tandem.{tandem_job, tandem_rules}
use Rattle.tandem.specs.Records.{placed_tandem_job}
use Rattle.tandem.specs.declared.jobs.TandemJob.{TandemJob}
use Rattle.tandem.specs.JobRecords as jobs
use Rattle.tandem.specs.Counted.{counted, counted_read, counted_written, counted_records}

-- an item that was read has both parts
record Both (job : Result TandemJob RecordFault) (count : Result FrameCount RecordFault) (p : Pair FrameCount TandemJob) : Type 0 where
  job_is_read : job ≡ Ok p.second
  count_read : count ≡ Ok p.first

both : (job : Result TandemJob RecordFault) (count : Result FrameCount RecordFault) (p : Pair FrameCount TandemJob) → counted job count ≡ Ok p → Both job count p
both (Err e) count p h = let z : ◌≡◌ {A = ℕ} 0 1 = cc in absurd (omega arith)
both (Ok j) (Err e) p h = let z : ◌≡◌ {A = ℕ} 0 1 = cc in absurd (omega arith)
both (Ok j) (Ok c) p h = let e : pair c j ≡ p = cc in record { job_is_read = ap (λ q. Ok q.second) e; count_read = ap (λ q. Ok q.first) e }

-- the item whose numbers stand in some bytes
abbrev item_in : List ℕ → Pair FrameCount TandemJob
item_in bs = pair (frame_count (field 14 16 bs)) (tandem_job (field 0 6 bs) (field 6 10 bs) (field 10 14 bs))

whole : (bs : List ℕ) → IsRecord bs → bs ≡ counted_written (item_in bs)
whole bs r =
    let end : drop 16 bs ≡ [] = drop_all 16 bs (omega (arith, r.whole)) in
    field_first bs 0 6 r.small (omega arith) (omega (arith, r.whole))
    ∙ ap (λ rest. digits 6 (field 0 6 bs) ++ rest)
    (field_first bs 6 10 r.small (omega arith) (omega (arith, r.whole))
    ∙ ap (λ rest. digits 4 (field 6 10 bs) ++ rest)
    (field_first bs 10 14 r.small (omega arith) (omega (arith, r.whole))
    ∙ ap (λ rest. digits 4 (field 10 14 bs) ++ rest)
    (field_first bs 14 16 r.small (omega arith) (omega (arith, r.whole))
    ∙ ap (λ rest. digits 2 (field 14 16 bs) ++ rest) end
    ∙ append-nil (digits 2 (field 14 16 bs)))))

-- what was read is the item in the bytes, and counts
record Was (bs : List ℕ) (p : Pair FrameCount TandemJob) : Type 0 where
  is : item_in bs ≡ p
  counts : (pair_rules count_rules tandem_rules).is_item (item_in bs)

was : (bs : List ℕ) (p : Pair FrameCount TandemJob) → counted_read bs ≡ Ok p → Was bs p
was bs p h =
    let b = both (placed_tandem_job (field 0 6 bs) (field 6 10 bs) (field 10 14 bs)) (placed_frame_count 14 (field 14 16 bs)) p h in
    let j = jobs.placed (field 0 6 bs) (field 6 10 bs) (field 10 14 bs) p.second b.job_is_read in
    let c = frames.placed 14 (field 14 16 bs) p.first b.count_read in
    record { is = ap (λ x. pair x (tandem_job (field 0 6 bs) (field 6 10 bs) (field 10 14 bs))) c.is ∙ ap (pair p.first) j.is; counts = (c.counts, j.counts) }

pub counted_laws : RecordLaws (pair_rules count_rules tandem_rules).is_item counted_records
counted_laws = record {
  read_counts = λ bs p r h. let w = was bs p h in subst (pair_rules count_rules tandem_rules).is_item w.is w.counts;
  read_written = λ bs p r h. whole bs r ∙ ap counted_written (was bs p h).is;
  written_record = λ p. record {
    whole = refl;
    small = append_small (digits 6 p.second.arrival) (digits 4 p.second.first ++ (digits 4 p.second.second ++ digits 2 p.first.count)) (digits_small 6 p.second.arrival)
        (append_small (digits 4 p.second.first) (digits 4 p.second.second ++ digits 2 p.first.count) (digits_small 4 p.second.first)
        (append_small (digits 4 p.second.second) (digits 2 p.first.count) (digits_small 4 p.second.second) (digits_small 2 p.first.count)));
  };
}

-- an item's record reads back as the item
pub counted_back : (p : Pair FrameCount TandemJob) → (pair_rules count_rules tandem_rules).is_item p → counted_read (counted_written p) ≡ Ok p
counted_back p h = search rules
