use Rattle.std.proofs.Common.{◌-◌, ◌≤◌, leb, length, drop, sym, ap, ◌∙◌, subst, inl, inr, arith}
use Rattle.std.proofs.ByRecursion.{All-take, All-drop}
use Rattle.std.proofs.lemmas.Bool.{le-leb, lt-leb, cond-true, cond-false, and_from}
use Rattle.station.specs.declared.refusals.Refusal.TheVariants.{NoSuchPosition}
use Rattle.traces.specs.Traces.{EntryCounts}
use Rattle.traces.proofs.Pieces.{piece_effect}
use Rattle.run.specs.Calls.{AskStretch, SummaryIs, Refused, answer_by}
use Rattle.run.specs.Rules.{Grant, Refuse, after, piece}
use Rattle.run.specs.Standing.{terms_of}
use Rattle.run.specs.Serving.{StretchReplays}
use Rattle.run.proofs.Outcomes.{served_refused, served_granted}
use Rattle.run.proofs.Steps.{stretch_is, and_shut, and_shut_behind}
use Rattle.run.proofs.run.Run.stretch.Goals as goal

pub returns-then-entries-self : goal.returns-then-entries-self
returns-then-entries-self g c = record {
  serves = λ records given number calls met counts.
      let t = after g.K.Summary.joins g.K.Station.rules (terms_of given number records) calls in
      let size = met.counted in
      let from = c.args.entries.start in
      let to = c.args.entries.end in
      served_refused (AskStretch from to) (Refused NoSuchPosition)
      (cond-false _ _ _ (and_shut_behind (leb from to) (leb to (length t.entries)) (lt-leb to (length t.entries) (omega (arith, c.if-entries-self.true))))) met;
  replays = λ records given number calls met. tt;
}

pub returns : goal.returns
returns g c =
    let j = g.K.Summary.joins in
    let k = g.K.Station.rules in
    let laws = g.met.K.Summary.laws in
    let steps = g.met.K.Station.steps in
    let agree = g.met.K.Station.agreement in
    let from = c.args.entries.start in
    let to = c.args.entries.end in
    let r = c.join_leaves.result in
    record {
      serves = λ records given number calls met counts.
          let t = after j k (terms_of given number records) calls in
          let n = length t.entries in
          let size = met.counted in
          let le : to ≤ n = omega (arith, c.if-entries-self.false) in
          elim (stretch_is met from to r le c.join_leaves.ensures) [
            | inl p ↦ served_granted (AskStretch from to) (answer_by SummaryIs r) t
                (cond-true _ _ _ (and_from (leb from to) (leb to n) (le-leb from to p.0) (le-leb to n le)) ∙ ap (λ x. Grant (answer_by SummaryIs x) t) (sym p.1)) met
            | inr p ↦ served_refused (AskStretch from to) (answer_by SummaryIs r)
                (cond-false _ _ _ (and_shut (leb from to) (leb to n) (lt-leb from to p.0)) ∙ ap (λ x. Refuse (answer_by SummaryIs x)) (sym p.1)) met
          ];
      replays = λ records given number calls met.
          let t = after j k (terms_of given number records) calls in
          let size = met.counted in
          let le : to ≤ length t.entries = omega (arith, c.if-entries-self.false) in
          let all = All-take (EntryCounts k) (to - from) (drop from t.entries) (All-drop (EntryCounts k) from t.entries met.items) in
          elim (stretch_is met from to r le c.join_leaves.ensures) [
            | inl p ↦ subst (λ x. StretchReplays k from to x t) (sym p.1) (λ d h. piece_effect laws steps agree (piece t.entries from to) d h all)
            | inr p ↦ subst (λ x. StretchReplays k from to x t) (sym p.1) tt
          ];
    }
