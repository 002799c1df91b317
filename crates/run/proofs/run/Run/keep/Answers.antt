use Rattle.std.proofs.lemmas.Bool.{both_ways}
use Rattle.std.proofs.Common.{length, None, sym, refl, ◌∙◌, subst, arith, is_some, true, ap, Some, ◌≡◌}
use Rattle.station.specs.declared.refusals.Refusal.TheVariants.{NothingToSettle}
use Rattle.run.specs.Calls.{Keep, Done, Refused}
use Rattle.run.specs.Rules.{Grant, after, trace}
use Rattle.run.specs.Standing.{TrialCounts, terms_of}
use Rattle.run.proofs.Outcomes.{served_refused, served_granted, unsettled, settling, settles, is_nothing, is_something, found_by}
use Rattle.run.proofs.CellSteps.{leaf_kept}
use Rattle.run.proofs.Steps.{cells_were, within_were, stands_as}
use Rattle.run.proofs.run.Run.keep.Goals as goal

pub returns-then-is_none : goal.returns-then-is_none
returns-then-is_none g c = record {
  serves = λ records given number calls met counts.
      let run = c.args.self.now in
      let shown = c.args.ticket.number in
      let t = after g.K.Summary.joins g.K.Station.rules (terms_of given number records) calls in
      served_refused (Keep shown) (Refused NothingToSettle)
      (unsettled t.tried run number shown _ met.trying met.numbered (sym c.tried_by.ensures ∙ is_nothing c.tried_by.result c.if-is_none.ensures)) met;
  keeps = record { refused = refl; same = refl };
  ticket = refl;
  settles = λ s.
      let found = found_by s in
      let nothing : Some s.place ≡ None = sym found ∙ sym c.tried_by.ensures ∙ is_nothing c.tried_by.result c.if-is_none.ensures in
      absurd (both_ways true (ap is_some nothing) refl);
}

pub returns : goal.returns
returns g c = record {
  serves = λ records given number calls met counts.
      let j = g.K.Summary.joins in
      let k = g.K.Station.rules in
      let laws = g.met.K.Summary.laws in
      let steps = g.met.K.Station.steps in
      let agree = g.met.K.Station.agreement in
      let run = c.args.self.now in
      let cells = run.cells.now in
      let t = after j k (terms_of given number records) calls in
      let es = t.entries in
      let size = met.counted in
      let within = within_were met in
      let shown = c.args.ticket.number in
      let found = is_something c.tried_by.result c.if-is_none.ensures in
      let s = settling t.tried run number shown found.0 met.trying met.numbered (sym c.tried_by.ensures ∙ found.1) in
      let was = subst (TrialCounts k (length es)) s.tried met.trials in
      let lt = was.0 in
      served_granted (Keep shown) Done (trace es None) (settles (λ p. Grant Done (trace es None)) s)
      (stands_as met (trace es None) _ refl refl size within met.items tt
      (leaf_kept laws steps agree (cells_were met) es refl (omega arith) c.release_leaf.ensures));
  keeps = record { refused = tt; same = refl };
  ticket = tt;
  settles = λ _. refl;
}
