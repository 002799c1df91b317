-- One server.
use Rattle.std.specs.Prelude.{ℕ, ◌≤◌, max, cond, ◌&&◌, List, Ok, Err, decimal, Result, nat_le}
use Rattle.station.specs.Laws.{Joins, Rules}
use Rattle.station.specs.declared.refusals.Refusal.{Refusal}
use Rattle.station.specs.declared.refusals.Refusal.TheVariants.{ItemLimit, StateLimit}
use Rattle.server.specs.Clock.{clock_end, service_limit, capped}
use Rattle.server.specs.declared.jobs.Job.{Job}
use Rattle.server.specs.declared.states.ServerState.{ServerState}
use Rattle.server.specs.declared.summaries.ServerSummary.{ServerSummary}

abbrev pub job : ℕ → ℕ → Job
job a s = record { arrival = a; service = s }

abbrev pub server_state : ℕ → ServerState
server_state d = record { free = d }

abbrev pub server_summary : ℕ → ℕ → ServerSummary
server_summary p q = record { p = p; q = q }

abbrev pub made_job : ℕ → ℕ → Result Job Refusal
made_job a s = cond (nat_le a clock_end && nat_le s service_limit) (Ok (job a s)) (Err ItemLimit)

abbrev pub made_server_state : ℕ → Result ServerState Refusal
made_server_state d = cond (nat_le d clock_end) (Ok (server_state d)) (Err StateLimit)

-- how a state is printed
abbrev pub server_text : ServerState → List ℕ
server_text d = decimal d.free

-- Lindley's recursion: service begins when the job has arrived and the server is free.
abbrev pub server_step : ServerState → Job → ServerState
server_step d i = server_state (capped (max i.arrival d.free) i.service)

abbrev pub server_joins : Joins ServerSummary
server_joins = record {
  is_summary = λ x. (x.p ≤ x.q) × (x.q ≤ clock_end);
  empty = server_summary 0 0;
  joined = λ x y. server_summary (capped x.p y.p) (max (capped x.q y.p) y.q);
}

abbrev pub server_rules : Rules ServerSummary Job ServerState
server_rules = record {
  is_item = λ i. (i.arrival ≤ clock_end) × (i.service ≤ service_limit);
  is_state = λ d. d.free ≤ clock_end;
  stepped = server_step;
  of_item = λ i. server_summary i.service (capped i.arrival i.service);
  effect = λ x d. server_state (max (capped d.free x.p) x.q);
}
