-- A run's answer from no frame seen balances, since its entries count and are at most 4,096.
use Rattle.std.proofs.Common.{◌≡◌, ℕ, ◌≤◌, length, take, IfOk, Ok, Err, Result, sym, subst, arith}
use Rattle.std.proofs.ByRecursion.{All-take}
use Rattle.std.proofs.lemmas.List.{length-take}
use Rattle.station.specs.declared.refusals.Refusal.{Refusal}
use Rattle.traces.specs.Traces.{EntryCounts, ran}
use Rattle.counts.specs.Counts.{count_joins, count_rules}
use Rattle.counts.specs.declared.states.CountState.{CountState}
use Rattle.counts.specs.declared.summaries.CountSummary.{CountSummary}
use Rattle.tree.proofs.Capacities.{capacity_room}
use Rattle.run.specs.Calls.{AskState, StateIs, answer_by}
use Rattle.run.specs.Rules.{after}
use Rattle.run.specs.Serving.{Serves, Tells}
use Rattle.run.specs.Standing.{terms_of}
use Rattle.run.specs.declared.run.Run.{Run}
use Rattle.reports.specs.Balance.{nothing_seen, Balances}
use Rattle.reports.proofs.Asked.{asked_state}
use Rattle.reports.proofs.Balancing.{balances}

pub report_balances : (run : Run CountSummary) (n : ℕ) (r : Result CountState Refusal)
    → Serves count_joins count_rules (AskState n nothing_seen) run run (answer_by StateIs r)
    → Tells count_joins count_rules run (λ t. IfOk r (λ end. Balances (take n t.entries) end))
report_balances run n (Err e) serves records given number calls met = tt
report_balances run n (Ok end) serves records given number calls met =
    let es = (after count_joins count_rules (terms_of given number records) calls).entries in
    let state : count_rules.is_state nothing_seen = (tt, (omega arith, omega arith, omega arith)) in
    let is : end ≡ ran count_rules nothing_seen (take n es) = (asked_state run n nothing_seen end serves state records given number calls met).1 in
    let few : length (take n es) ≤ 4096 = omega (arith, length-take n es, met.within, (capacity_room (length given)).small) in
    subst (Balances (take n es)) (sym is) (balances (take n es) (All-take (EntryCounts count_rules) n es met.items) few)
