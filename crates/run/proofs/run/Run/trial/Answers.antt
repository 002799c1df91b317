use Rattle.tree.specs.Answers.{places_of}
use Rattle.tree.specs.Capacity.{capacity}
use Rattle.std.proofs.Common.{◌<◌, ltb, length, get_or, set, Some, sym, refl, ap, ◌∙◌, arith, subst, None}
use Rattle.std.proofs.ByRecursion.{All-set, All-get_or}
use Rattle.std.proofs.lemmas.List.{length-set}
use Rattle.std.proofs.lemmas.Bool.{lt-ltb, ltb-true}
use Rattle.traces.specs.Traces.{EntryCounts}
use Rattle.run.specs.Calls.{ticket_granted, Try, Granted}
use Rattle.run.specs.Rules.{Grant, after, trace}
use Rattle.run.specs.Standing.{terms_of}
use Rattle.std.proofs.lemmas.Result.{err_from_is_err_and}
use Rattle.run.proofs.Outcomes.{served_granted, served_uneditable, editable, gate_open, granted_by}
use Rattle.run.proofs.CellSteps.{leaf_tried}
use Rattle.run.proofs.Steps.{cells_were, within_were, stands_as}
use Rattle.run.proofs.run.Run.trial.Goals as goal

pub returns-in_err-ensure_editable-clause-serves : goal.returns-in_err-ensure_editable-clause-serves
returns-in_err-ensure_editable-clause-serves g c = λ records given number calls met counts.
    let p = err_from_is_err_and c.from_residual.result c.from_residual.ensures.1 in
    let t = after g.K.Summary.joins g.K.Station.rules (terms_of given number records) calls in
    served_uneditable (Try c.args.position c.args.item) ticket_granted _ c.args.position c.ensure_editable.result c.from_residual.result _ (refl) c.ensure_editable.ensures c.in_err-ensure_editable.was (let e = p.1 in let y = p.2 in cc) met

pub returns : goal.returns
returns g c = record {
  serves = λ records given number calls met counts.
      let j = g.K.Summary.joins in
      let k = g.K.Station.rules in
      let laws = g.met.K.Summary.laws in
      let steps = g.met.K.Station.steps in
      let agree = g.met.K.Station.agreement in
      let run = c.args.self.now in
      let cells = run.cells.now in
      let t = after j k (terms_of given number records) calls in
      let es = t.entries in
      let size = met.counted in
      let within = within_were met in
      let free = editable t.tried run.trial c.args.position run.length _ _ met.trying c.ensure_editable.ensures c.in_ok-ensure_editable.was in
      let idle = free.idle in
      let p = c.args.position in
      let e = Some c.args.item in
      let old = get_or es p None in
      let lt : p < length es = omega (arith, free.within) in
      let long = length-set es p e in
      let u = trace (set es p e) (Some (record { place = p; old = old })) in
      served_granted (Try p c.args.item) (Granted run.number) u
      (gate_open t.tried (ltb p (length es)) _ _ _ idle (lt-ltb p (length es) lt) ∙ ap (λ n. Grant (Granted n) u) (sym met.numbered))
      (stands_as met u _ refl refl (omega arith) (omega arith) (All-set (EntryCounts k) es p e counts met.items)
      (omega arith, All-get_or (EntryCounts k) es p None lt met.items)
      (leaf_tried laws steps agree (cells_were met) e p c.of_item.result lt within (c.in_ok-try_leaf.ensures.granted refl) met.items counts (sym (c.of_item.ensures counts).is)));
  keeps = record { refused = tt; same = refl };
  settled_by =
      let cells = c.args.self.now.cells.now in
      let wrote = granted_by (ltb c.args.position (places_of cells)) _ c.in_ok-try_leaf.ensures.is refl in
      record {
        numbered = refl;
        place = c.args.position;
        tried = refl;
        held = subst (λ n. c.args.position < capacity n) (sym (c.in_ok-try_leaf.ensures.granted refl).long) (ltb-true c.args.position (places_of cells) wrote);
      };
}
