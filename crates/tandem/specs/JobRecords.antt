-- The laws of a job's record.
use Rattle.std.specs.Prelude.{◌≡◌, ℕ, List, ◌++◌, None, Ok, nat_lt, refl}
use Rattle.std.proofs.Common.{ap, subst, ◌∙◌, arith, rules}
use Rattle.std.specs.List.{between}
use Rattle.std.proofs.lemmas.Bool.{ltb-false}
use Rattle.station.specs.Records.{IsRecord, RecordLaws}
use Rattle.station.specs.declared.records.RecordFault.TheVariants.{Limit}
use Rattle.station.proofs.RecordWays.{unless_used_lem}
use Rattle.byte_fields.specs.Numbers.{digits, field}
use Rattle.byte_fields.specs.Unused.{zeros, first_used}
use Rattle.byte_fields.proofs.NumberLaws.{digits_small, zeros_small, append_small}
use Rattle.byte_fields.proofs.Layouts.{field_first, unused_last}
use Rattle.byte_fields.proofs.Ways.{cond_else}
use Rattle.server.specs.Clock.{clock_end, service_limit}
use Rattle.tandem.specs.Tandem.{tandem_job, tandem_rules}
use Rattle.tandem.specs.Records.{placed_tandem_job, tandem_job_read, tandem_job_written, tandem_job_records}
use Rattle.tandem.specs.declared.jobs.TandemJob.{TandemJob}

-- what numbers that make a job are
pub record Placed (a s₁ s₂ : ℕ) (i : TandemJob) : Type 0 where
  pub counts : tandem_rules.is_item (tandem_job a s₁ s₂)
  pub is : tandem_job a s₁ s₂ ≡ i

pub placed : (a s₁ s₂ : ℕ) (i : TandemJob) → placed_tandem_job a s₁ s₂ ≡ Ok i → Placed a s₁ s₂ i
placed a s₁ s₂ i p =
    let b = cond_else (nat_lt clock_end a) _ (Limit 0) i p in
    let c = cond_else (nat_lt service_limit s₁) _ (Limit 6) i b.1 in
    let d = cond_else (nat_lt service_limit s₂) (Ok (tandem_job a s₁ s₂)) (Limit 10) i c.1 in
    let e = d.1 in
    record { counts = (ltb-false clock_end a b.0, ltb-false service_limit s₁ c.0, ltb-false service_limit s₂ d.0); is = cc }

-- bytes whose last are unused are the record of the numbers in them
whole : (bs : List ℕ) → IsRecord bs → first_used (between 14 16 bs) ≡ None → bs ≡ tandem_job_written (tandem_job (field 0 6 bs) (field 6 10 bs) (field 10 14 bs))
whole bs r unused =
    field_first bs 0 6 r.small (omega arith) (omega (arith, r.whole))
    ∙ ap (λ rest. digits 6 (field 0 6 bs) ++ rest)
    (field_first bs 6 10 r.small (omega arith) (omega (arith, r.whole))
    ∙ ap (λ rest. digits 4 (field 6 10 bs) ++ rest)
    (field_first bs 10 14 r.small (omega arith) (omega (arith, r.whole))
    ∙ ap (λ rest. digits 4 (field 10 14 bs) ++ rest) (unused_last bs 14 r.whole unused)))

pub tandem_job_laws : RecordLaws tandem_rules.is_item tandem_job_records
unfolding zeros
tandem_job_laws = record {
  read_counts = λ bs i r p.
      let w = placed (field 0 6 bs) (field 6 10 bs) (field 10 14 bs) i (unless_used_lem 14 (first_used (between 14 16 bs)) _ i p).1 in
      subst tandem_rules.is_item w.is w.counts;
  read_written = λ bs i r p.
      let u = unless_used_lem 14 (first_used (between 14 16 bs)) (placed_tandem_job (field 0 6 bs) (field 6 10 bs) (field 10 14 bs)) i p in
      whole bs r u.0 ∙ ap tandem_job_written (placed (field 0 6 bs) (field 6 10 bs) (field 10 14 bs) i u.1).is;
  written_record = λ i. record {
    whole = refl;
    small = append_small (digits 6 i.arrival) (digits 4 i.first ++ (digits 4 i.second ++ zeros 2)) (digits_small 6 i.arrival)
        (append_small (digits 4 i.first) (digits 4 i.second ++ zeros 2) (digits_small 4 i.first)
        (append_small (digits 4 i.second) (zeros 2) (digits_small 4 i.second) (zeros_small 2)));
  };
}

-- the numbers of a job within its limits are read as that job
pub made : (a s₁ s₂ x y z : ℕ) → tandem_rules.is_item (tandem_job a s₁ s₂) → x ≡ a → y ≡ s₁ → z ≡ s₂ → placed_tandem_job x y z ≡ Ok (tandem_job a s₁ s₂)
made a s₁ s₂ x y z h p q r = search rules

-- an item's record reads back as the item
pub tandem_job_back : (i : TandemJob) → tandem_rules.is_item i → tandem_job_read (tandem_job_written i) ≡ Ok i
unfolding zeros
tandem_job_back i h = search rules
