-- A running maximum. Every value counts.
use Rattle.std.specs.Prelude.{ℕ, max}
use Rattle.station.specs.Laws.{Joins, Rules}
use Rattle.checks.specs.declared.readings.Reading.{Reading}
use Rattle.checks.specs.declared.readings.Peak.{Peak}
use Rattle.checks.specs.declared.readings.PeakSummary.{PeakSummary}

abbrev pub peak : ℕ → Peak
peak n = record { top = n }

abbrev pub peak_summary : ℕ → PeakSummary
peak_summary n = record { top = n }

abbrev pub peak_joins : Joins PeakSummary
peak_joins = record {
  is_summary = λ _. Unit {0};
  empty = peak_summary 0;
  joined = λ x y. peak_summary (max x.top y.top);
}

abbrev pub peak_rules : Rules PeakSummary Reading Peak
peak_rules = record {
  is_item = λ _. Unit {0};
  is_state = λ _. Unit {0};
  stepped = λ d i. peak (max d.top i.value);
  of_item = λ i. peak_summary i.value;
  effect = λ x d. peak (max d.top x.top);
}
