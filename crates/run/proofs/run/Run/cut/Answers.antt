use Rattle.std.proofs.Common.{◌≤◌, leb, length, take, sym, refl, subst, arith}
use Rattle.std.proofs.ByRecursion.{All-take}
use Rattle.std.proofs.lemmas.List.{length-take-le}
use Rattle.std.proofs.lemmas.Bool.{le-leb, lt-leb}
use Rattle.station.specs.declared.refusals.Refusal.TheVariants.{NoSuchPosition}
use Rattle.traces.specs.Traces.{EntryCounts}
use Rattle.tree.specs.Answers.{places_of, without_leaves}
use Rattle.tree.specs.Cells.{Rejoined}
use Rattle.run.specs.Calls.{done, Cut, Done, Refused}
use Rattle.run.specs.Rules.{after, trace}
use Rattle.run.specs.Standing.{terms_of}
use Rattle.std.proofs.lemmas.Result.{err_from_is_err_and}
use Rattle.run.proofs.Outcomes.{served_refused, served_granted, served_open, gate_idle, gate_open, gate_shut}
use Rattle.run.proofs.CellSteps.{kept_counts, leaves_cut}
use Rattle.run.proofs.Steps.{cells_were, within_were, stands_edited}
use Rattle.run.proofs.run.Run.cut.Goals as goal

pub returns-in_err-ensure_settled-clause-serves : goal.returns-in_err-ensure_settled-clause-serves
returns-in_err-ensure_settled-clause-serves g c = λ records given number calls met counts.
    let p = err_from_is_err_and c.from_residual.result c.from_residual.ensures.1 in
    let t = after g.K.Summary.joins g.K.Station.rules (terms_of given number records) calls in
    served_open (Cut c.args.kept) done _ c.ensure_settled.result c.from_residual.result _ (refl) c.ensure_settled.ensures c.in_err-ensure_settled.was (let e = p.1 in let y = p.2 in cc) met

pub returns-then-kept-length : goal.returns-then-kept-length
returns-then-kept-length g c = record {
  serves = λ records given number calls met counts.
      let t = after g.K.Summary.joins g.K.Station.rules (terms_of given number records) calls in
      let idle = gate_idle t.tried c.args.self.now.trial _ _ met.trying c.ensure_settled.ensures c.in_ok-ensure_settled.was in
      let size = met.counted in
      served_refused (Cut c.args.kept) (Refused NoSuchPosition) (gate_shut t.tried (leb c.args.kept (length t.entries)) _ _ _ idle (lt-leb c.args.kept (length t.entries) (omega (arith, c.if-kept-length.true)))) met;
  keeps = record { refused = refl; same = refl };
}

pub returns : goal.returns
returns g c = record {
  serves = λ records given number calls met counts.
      let j = g.K.Summary.joins in
      let k = g.K.Station.rules in
      let laws = g.met.K.Summary.laws in
      let steps = g.met.K.Station.steps in
      let agree = g.met.K.Station.agreement in
      let run = c.args.self.now in
      let cells = run.cells.now in
      let t = after j k (terms_of given number records) calls in
      let es = t.entries in
      let size = met.counted in
      let within = within_were met in
      let idle = gate_idle t.tried run.trial _ _ met.trying c.ensure_settled.ensures c.in_ok-ensure_settled.was in
      let kept = kept_counts laws steps agree (length es) t.tried met.trials in
      let n = c.args.kept in
      let le : n ≤ length es = omega (arith, c.if-kept-length.false) in
      let put = subst (λ m. Rejoined j (places_of cells) cells (without_leaves j cells n m) c.clear_leaves.new.cells) size (c.in_ok-clear_leaves.ensures.granted refl) in
      let long = length-take-le n es le in
      served_granted (Cut n) Done (trace (take n es) t.tried)
      (gate_open t.tried (leb n (length es)) _ _ _ idle (le-leb n (length es) le))
      (stands_edited met (take n es) _ idle refl refl (sym long) (omega arith) (All-take (EntryCounts k) n es met.items)
      (leaves_cut laws steps agree (cells_were met) n le within put met.items kept));
  keeps = record { refused = tt; same = refl };
}
