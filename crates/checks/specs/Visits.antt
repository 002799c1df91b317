-- A counter modulo 2^32.
use Rattle.std.specs.Prelude.{ℕ, ◌+◌, ◌%◌, ◌<◌}
use Rattle.station.specs.Laws.{Joins, Rules}
use Rattle.checks.specs.declared.visits.Visit.{Visit}
use Rattle.checks.specs.declared.visits.Visits.{Visits}
use Rattle.checks.specs.declared.visits.VisitSummary.{VisitSummary}

abbrev pub visits : ℕ → Visits
visits n = record { people = n }

abbrev pub visit_summary : ℕ → VisitSummary
visit_summary n = record { people = n }

abbrev pub visit_joins : Joins VisitSummary
visit_joins = record {
  is_summary = λ x. x.people < 4294967296;
  empty = visit_summary 0;
  joined = λ x y. visit_summary ((x.people + y.people) % 4294967296);
}

abbrev pub visit_rules : Rules VisitSummary Visit Visits
visit_rules = record {
  is_item = λ i. i.people < 65536;
  is_state = λ d. d.people < 4294967296;
  stepped = λ d i. visits ((d.people + i.people) % 4294967296);
  of_item = λ i. visit_summary i.people;
  effect = λ x d. visits ((d.people + x.people) % 4294967296);
}
