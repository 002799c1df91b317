use Rattle.std.proofs.Common.{length, set, None, sym, refl, ap, ◌∙◌, subst, arith, is_some, true, Some, ◌≡◌}
use Rattle.std.proofs.ByRecursion.{All-set}
use Rattle.std.proofs.lemmas.List.{length-set}
use Rattle.std.proofs.lemmas.Bool.{both_ways}
use Rattle.station.specs.declared.refusals.Refusal.TheVariants.{NothingToSettle}
use Rattle.traces.specs.Traces.{EntryCounts}
use Rattle.run.specs.Calls.{TakeBack, Done, Refused}
use Rattle.run.specs.Rules.{Grant, after, trace}
use Rattle.run.specs.Standing.{TrialCounts, terms_of}
use Rattle.run.proofs.Outcomes.{served_refused, served_granted, unsettled, settling, settles, found_by}
use Rattle.run.proofs.CellSteps.{leaf_restored}
use Rattle.run.proofs.Steps.{cells_were, within_were, stands_as}
use Rattle.run.proofs.run.Run.take_back.Goals as goal

pub returns-in_default : goal.returns-in_default
returns-in_default g c = record {
  serves = λ records given number calls met counts.
      let run = c.args.self.now in
      let shown = c.args.ticket.number in
      let t = after g.K.Summary.joins g.K.Station.rules (terms_of given number records) calls in
      served_refused (TakeBack shown) (Refused NothingToSettle)
      (unsettled t.tried run number shown _ met.trying met.numbered (sym c.tried_by.ensures ∙ c.in_default.is)) met;
  keeps = record { refused = refl; same = refl };
  ticket = refl;
  settles = λ s.
      let found = found_by s in
      let nothing : Some s.place ≡ None = sym found ∙ sym c.tried_by.ensures ∙ c.in_default.is in
      absurd (both_ways true (ap is_some nothing) refl);
}

pub returns : goal.returns
returns g c = record {
  serves = λ records given number calls met counts.
      let j = g.K.Summary.joins in
      let k = g.K.Station.rules in
      let laws = g.met.K.Summary.laws in
      let steps = g.met.K.Station.steps in
      let agree = g.met.K.Station.agreement in
      let run = c.args.self.now in
      let cells = run.cells.now in
      let t = after j k (terms_of given number records) calls in
      let es = t.entries in
      let size = met.counted in
      let within = within_were met in
      let shown = c.args.ticket.number in
      let i = c.in-Some.position in
      let s = settling t.tried run number shown i met.trying met.numbered (sym c.tried_by.ensures ∙ c.in-Some.is) in
      let old = s.old in
      let was = subst (TrialCounts k (length es)) s.tried met.trials in
      let long = length-set es i old in
      served_granted (TakeBack shown) Done (trace (set es i old) None) (settles (λ p. Grant Done (trace (set es p.place p.old) None)) s)
      (stands_as met (trace (set es i old) None) _ refl refl (size ∙ sym long) (omega arith) (All-set (EntryCounts k) es i old was.1 met.items) tt
      (leaf_restored laws steps agree (cells_were met) old i was.0 within s.tried (c.in_default-restore_leaf.ensures.granted refl) met.items was.1));
  keeps = record { refused = tt; same = refl };
  ticket = tt;
  settles = λ _. refl;
}
