use Rattle.std.proofs.Common.{◌≡◌, ◌<◌, ltb, [], ◌∷◌, ◌++◌, length, sym, refl, ap, ◌∙◌, subst, arith, is_some, Some}
use Rattle.std.proofs.ByRecursion.{All-push}
use Rattle.std.proofs.lemmas.List.{length_push}
use Rattle.std.proofs.lemmas.Bool.{le-ltb, lt-ltb, both_ways}
use Rattle.station.specs.declared.refusals.Refusal.TheVariants.{NoRoom}
use Rattle.traces.specs.Traces.{EntryCounts}
use Rattle.tree.specs.Answers.{places_of, with_leaf}
use Rattle.tree.specs.Cells.{Rejoined}
use Rattle.run.specs.Calls.{Append, AtPosition, Refused}
use Rattle.run.specs.Rules.{Grant, after, trace}
use Rattle.run.specs.Standing.{terms_of}
use Rattle.std.proofs.lemmas.Result.{err_from_is_err_and}
use Rattle.run.proofs.Outcomes.{served_refused, served_granted, served_open, gate_idle, gate_none, gate_open, gate_shut}
use Rattle.run.proofs.CellSteps.{same_places, kept_counts, leaf_push}
use Rattle.run.proofs.Steps.{cells_were, within_were, stands_edited}
use Rattle.run.proofs.run.Run.append.Goals as goal

pub returns-in_err-ensure_settled-clause-serves : goal.returns-in_err-ensure_settled-clause-serves
returns-in_err-ensure_settled-clause-serves g c = λ records given number calls met counts.
    let p = err_from_is_err_and c.from_residual.result c.from_residual.ensures.1 in
    let t = after g.K.Summary.joins g.K.Station.rules (terms_of given number records) calls in
    served_open (Append c.args.item) AtPosition _ c.ensure_settled.result c.from_residual.result _ (refl) c.ensure_settled.ensures c.in_err-ensure_settled.was (let e = p.1 in let y = p.2 in cc) met

pub returns-then-position-capacity_of : goal.returns-then-position-capacity_of
returns-then-position-capacity_of g c = record {
  serves = λ records given number calls met counts.
      let t = after g.K.Summary.joins g.K.Station.rules (terms_of given number records) calls in
      let idle = gate_idle t.tried c.args.self.now.trial _ _ met.trying c.ensure_settled.ensures c.in_ok-ensure_settled.was in
      let size = met.counted in
      let room : c.capacity_of.result ≡ places_of given = c.capacity_of.ensures.is ∙ same_places met.cells in
      served_refused (Append c.args.item) (Refused NoRoom) (gate_shut t.tried (ltb (length t.entries) (places_of given)) _ _ _ idle (le-ltb (length t.entries) (places_of given) (omega (arith, c.if-position-capacity_of.true)))) met;
  keeps = record { refused = refl; same = refl };
  tried = λ _. refl;
}

pub returns : goal.returns
returns g c = record {
  serves = λ records given number calls met counts.
      let j = g.K.Summary.joins in
      let k = g.K.Station.rules in
      let laws = g.met.K.Summary.laws in
      let steps = g.met.K.Station.steps in
      let agree = g.met.K.Station.agreement in
      let run = c.args.self.now in
      let cells = run.cells.now in
      let t = after j k (terms_of given number records) calls in
      let es = t.entries in
      let size = met.counted in
      let within = within_were met in
      let idle = gate_idle t.tried run.trial _ _ met.trying c.ensure_settled.ensures c.in_ok-ensure_settled.was in
      let kept = kept_counts laws steps agree (length es) t.tried met.trials in
      let item = c.args.item in
      let s = c.of_item.result in
      let room : places_of cells ≡ places_of given = same_places met.cells in
      let has = c.capacity_of.ensures.is in
      let free : length es < places_of cells = omega (arith, c.if-position-capacity_of.false) in
      let put = subst (λ p. Rejoined j (places_of cells) cells (with_leaf cells p s) c.write_leaf.new.cells) size (c.in_ok-write_leaf.ensures.granted refl) in
      let long = length_push es (Some item) in
      served_granted (Append item) (AtPosition run.length) (trace (es ++ (Some item ∷ [])) t.tried)
      (gate_open t.tried (ltb (length es) (places_of given)) _ _ _ idle (lt-ltb (length es) (places_of given) (omega arith)) ∙ ap (λ n. Grant (AtPosition n) (trace (es ++ (Some item ∷ [])) t.tried)) (sym size))
      (stands_edited met (es ++ (Some item ∷ [])) _ idle refl refl (omega arith) (omega arith) (All-push (EntryCounts k) es (Some item) met.items counts)
      (leaf_push laws steps agree (cells_were met) (Some item) s free put met.items counts kept (sym (c.of_item.ensures counts).is)));
  keeps = record { refused = tt; same = refl };
  tried = λ h. absurd (both_ways (is_some c.args.self.now.trial) (gate_none c.args.self.now.trial _ _ c.ensure_settled.ensures c.in_ok-ensure_settled.was) h);
}
