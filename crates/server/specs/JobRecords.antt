-- The laws of a job's record.
use Rattle.std.specs.Prelude.{◌≡◌, ℕ, ◌≤◌, List, ◌++◌, None, Ok, nat_lt, refl}
use Rattle.std.proofs.Common.{ap, subst, ◌∙◌, arith, rules}
use Rattle.std.specs.List.{between}
use Rattle.std.proofs.lemmas.Bool.{ltb-false}
use Rattle.station.specs.Records.{IsRecord, RecordLaws}
use Rattle.station.specs.declared.records.RecordFault.TheVariants.{Limit}
use Rattle.station.proofs.RecordWays.{unless_used_lem}
use Rattle.byte_fields.specs.Numbers.{digits, field}
use Rattle.byte_fields.specs.Unused.{zeros, first_used}
use Rattle.byte_fields.proofs.NumberLaws.{digits_small, zeros_small, append_small}
use Rattle.byte_fields.proofs.Layouts.{field_first, unused_last}
use Rattle.byte_fields.proofs.Ways.{cond_else}
use Rattle.server.specs.Clock.{clock_end, service_limit}
use Rattle.server.specs.Server.{job, server_rules}
use Rattle.server.specs.Records.{placed_job, job_read, job_written, job_records}
use Rattle.server.specs.declared.jobs.Job.{Job}

-- what numbers that make a job are
record Placed (a s : ℕ) (i : Job) : Type 0 where
  arrival : a ≤ clock_end
  service : s ≤ service_limit
  is : job a s ≡ i

placed : (a s : ℕ) (i : Job) → placed_job a s ≡ Ok i → Placed a s i
placed a s i p =
    let b = cond_else (nat_lt clock_end a) _ (Limit 0) i p in
    let c = cond_else (nat_lt service_limit s) (Ok (job a s)) (Limit 6) i b.1 in
    let e = c.1 in
    record { arrival = ltb-false clock_end a b.0; service = ltb-false service_limit s c.0; is = cc }

-- bytes whose last are unused are the record of the numbers in them
whole : (bs : List ℕ) → IsRecord bs → first_used (between 10 16 bs) ≡ None → bs ≡ job_written (job (field 0 6 bs) (field 6 10 bs))
whole bs r unused =
    field_first bs 0 6 r.small (omega arith) (omega (arith, r.whole))
    ∙ ap (λ rest. digits 6 (field 0 6 bs) ++ rest)
    (field_first bs 6 10 r.small (omega arith) (omega (arith, r.whole))
    ∙ ap (λ rest. digits 4 (field 6 10 bs) ++ rest) (unused_last bs 10 r.whole unused))

pub job_laws : RecordLaws server_rules.is_item job_records
unfolding zeros
job_laws = record {
  read_counts = λ bs i r p.
      let w = placed (field 0 6 bs) (field 6 10 bs) i (unless_used_lem 10 (first_used (between 10 16 bs)) _ i p).1 in
      subst server_rules.is_item w.is (w.arrival, w.service);
  read_written = λ bs i r p.
      let u = unless_used_lem 10 (first_used (between 10 16 bs)) (placed_job (field 0 6 bs) (field 6 10 bs)) i p in
      whole bs r u.0 ∙ ap job_written (placed (field 0 6 bs) (field 6 10 bs) i u.1).is;
  written_record = λ i. record {
    whole = refl;
    small = append_small (digits 6 i.arrival) (digits 4 i.service ++ zeros 6) (digits_small 6 i.arrival) (append_small (digits 4 i.service) (zeros 6) (digits_small 4 i.service) (zeros_small 6));
  };
}

-- an item's record reads back as the item
pub job_back : (i : Job) → server_rules.is_item i → job_read (job_written i) ≡ Ok i
unfolding zeros
job_back i h = search rules
