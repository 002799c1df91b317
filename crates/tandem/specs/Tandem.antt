-- Two servers in tandem.
use Rattle.std.specs.Prelude.{ℕ, ◌≤◌, max, cond, ◌&&◌, List, ◌++◌, Ok, Err, codes, decimal, Result, nat_le}
use Rattle.station.specs.Laws.{Joins, Rules}
use Rattle.station.specs.declared.refusals.Refusal.{Refusal}
use Rattle.station.specs.declared.refusals.Refusal.TheVariants.{ItemLimit, StateLimit}
use Rattle.server.specs.Clock.{clock_end, service_limit, capped}
use Rattle.tandem.specs.declared.jobs.TandemJob.{TandemJob}
use Rattle.tandem.specs.declared.states.TandemState.{TandemState}
use Rattle.tandem.specs.declared.summaries.TandemSummary.{TandemSummary}

abbrev pub tandem_job : ℕ → ℕ → ℕ → TandemJob
tandem_job a s₁ s₂ = record { arrival = a; first = s₁; second = s₂ }

abbrev pub tandem_state : ℕ → ℕ → TandemState
tandem_state d₁ d₂ = record { first = d₁; second = d₂ }

abbrev pub tandem_summary : ℕ → ℕ → ℕ → ℕ → ℕ → TandemSummary
tandem_summary p q r t u = record { p = p; q = q; r = r; t = t; u = u }

abbrev pub made_tandem_job : ℕ → ℕ → ℕ → Result TandemJob Refusal
made_tandem_job a s₁ s₂ =
    cond (nat_le a clock_end && (nat_le s₁ service_limit && nat_le s₂ service_limit)) (Ok (tandem_job a s₁ s₂)) (Err ItemLimit)

abbrev pub made_tandem_state : ℕ → ℕ → Result TandemState Refusal
made_tandem_state d₁ d₂ = cond (nat_le d₁ d₂ && nat_le d₂ clock_end) (Ok (tandem_state d₁ d₂)) (Err StateLimit)

-- how a state is printed
abbrev pub tandem_text : TandemState → List ℕ
tandem_text d = decimal d.first ++ (codes " " ++ decimal d.second)

-- when the first server is done with a job
abbrev pub first_done : TandemState → TandemJob → ℕ
first_done d i = capped (max i.arrival d.first) i.first

-- Lindley's recursion twice: a job arrives at the second server when the first is done with it.
abbrev pub tandem_step : TandemState → TandemJob → TandemState
tandem_step d i = tandem_state (first_done d i) (capped (max (first_done d i) d.second) i.second)

abbrev pub tandem_joins : Joins TandemSummary
tandem_joins = record {
  is_summary = λ x. (x.p ≤ x.q) × (x.p ≤ x.r) × (x.t ≤ x.r) × (x.q ≤ x.u) × (x.r ≤ x.u) × (x.u ≤ clock_end);
  empty = tandem_summary 0 0 0 0 0;
  joined = λ x y. tandem_summary
      (capped x.p y.p)
      (max (capped x.q y.p) y.q)
      (max (capped x.p y.r) (capped x.r y.t))
      (capped x.t y.t)
      (max (max (capped x.q y.r) (capped x.u y.t)) y.u);
}

abbrev pub tandem_rules : Rules TandemSummary TandemJob TandemState
tandem_rules = record {
  is_item = λ i. (i.arrival ≤ clock_end) × (i.first ≤ service_limit) × (i.second ≤ service_limit);
  is_state = λ d. (d.first ≤ d.second) × (d.second ≤ clock_end);
  stepped = tandem_step;
  of_item = λ i. tandem_summary
      i.first
      (capped i.arrival i.first)
      (capped i.first i.second)
      i.second
      (capped (capped i.arrival i.first) i.second);
  effect = λ x d. tandem_state
      (max (capped d.first x.p) x.q)
      (max (max (capped d.first x.r) (capped d.second x.t)) x.u);
}
