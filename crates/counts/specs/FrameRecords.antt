-- The laws of a frame count's record.
use Rattle.std.specs.Prelude.{◌≡◌, ℕ, ◌<◌, List, ◌++◌, None, Ok, nat_lt, refl}
use Rattle.std.proofs.Common.{ap, subst, ◌∙◌, arith, rules}
use Rattle.std.specs.List.{between}
use Rattle.std.proofs.lemmas.Bool.{ltb-true}
use Rattle.station.specs.Records.{IsRecord, RecordLaws}
use Rattle.station.specs.declared.records.RecordFault.TheVariants.{Limit}
use Rattle.station.proofs.RecordWays.{unless_used_lem}
use Rattle.byte_fields.specs.Numbers.{digits, field}
use Rattle.byte_fields.specs.Unused.{zeros, first_used}
use Rattle.byte_fields.proofs.NumberLaws.{digits_small, zeros_small, append_small}
use Rattle.byte_fields.proofs.Layouts.{field_first, unused_last}
use Rattle.byte_fields.proofs.Ways.{cond_then}
use Rattle.counts.specs.Counts.{frame_count, count_rules}
use Rattle.counts.specs.Records.{placed_frame_count, frame_count_read, frame_count_written, frame_count_records}
use Rattle.counts.specs.declared.frames.FrameCount.{FrameCount}

-- what a number that makes a frame is
pub record Placed (n : ℕ) (i : FrameCount) : Type 0 where
  pub counts : count_rules.is_item (frame_count n)
  pub is : frame_count n ≡ i

pub placed : (place n : ℕ) (i : FrameCount) → placed_frame_count place n ≡ Ok i → Placed n i
placed place n i p =
    let b = cond_then (nat_lt n 16384) (Ok (frame_count n)) (Limit place) i p in
    let e = b.1 in
    record { counts = ltb-true n 16384 b.0; is = cc }

whole : (bs : List ℕ) → IsRecord bs → first_used (between 2 16 bs) ≡ None → bs ≡ frame_count_written (frame_count (field 0 2 bs))
whole bs r unused =
    field_first bs 0 2 r.small (omega arith) (omega (arith, r.whole))
    ∙ ap (λ rest. digits 2 (field 0 2 bs) ++ rest) (unused_last bs 2 r.whole unused)

pub frame_laws : RecordLaws count_rules.is_item frame_count_records
unfolding zeros
frame_laws = record {
  read_counts = λ bs i r p.
      let w = placed 0 (field 0 2 bs) i (unless_used_lem 2 (first_used (between 2 16 bs)) _ i p).1 in
      subst count_rules.is_item w.is w.counts;
  read_written = λ bs i r p.
      let u = unless_used_lem 2 (first_used (between 2 16 bs)) (placed_frame_count 0 (field 0 2 bs)) i p in
      whole bs r u.0 ∙ ap frame_count_written (placed 0 (field 0 2 bs) i u.1).is;
  written_record = λ i. record { whole = refl; small = append_small (digits 2 i.count) (zeros 14) (digits_small 2 i.count) (zeros_small 14) };
}

-- a number below 16384 is read as the frame with that count
pub made : (place n x : ℕ) → n < 16384 → x ≡ n → placed_frame_count place x ≡ Ok (frame_count n)
made place n x h p = search rules

-- an item's record reads back as the item
pub frame_back : (i : FrameCount) → count_rules.is_item i → frame_count_read (frame_count_written i) ≡ Ok i
unfolding zeros
frame_back i h = search rules
