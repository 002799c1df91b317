use Rattle.std.proofs.Common.{subst}
use Rattle.counts.specs.Counts.{count_joins, count_rules}
use Rattle.run.specs.Calls.{AskState, StateIs, answer_by}
use Rattle.run.specs.Serving.{Serves}
use Rattle.reports.proofs.Reporting.{report_balances}
use Rattle.reports.proofs.balance.count_report.Goals as goal

pub returns : goal.returns
returns c =
    let run = c.args.run.now in
    let serves = subst (λ start. Serves count_joins count_rules (AskState c.args.entries start) run run (answer_by StateIs c.state.result)) c.default.ensures c.state.ensures in
    record { serves = serves; balance = report_balances run c.args.entries c.state.result serves }
