use Rattle.std.proofs.Common.{◌<◌, ltb, length, set, sym, refl, ◌∙◌, arith}
use Rattle.std.proofs.ByRecursion.{All-set}
use Rattle.std.proofs.lemmas.List.{length-set}
use Rattle.std.proofs.lemmas.Bool.{lt-ltb}
use Rattle.traces.specs.Traces.{EntryCounts}
use Rattle.run.specs.Calls.{done, put_call, Done}
use Rattle.run.specs.Rules.{after, trace}
use Rattle.run.specs.Standing.{terms_of}
use Rattle.std.proofs.lemmas.Result.{err_from_is_err_and}
use Rattle.run.proofs.Outcomes.{put_outcome, put_counts, served_granted, served_uneditable, editable, gate_open}
use Rattle.run.proofs.CellSteps.{kept_counts, leaf_set}
use Rattle.run.proofs.Steps.{cells_were, within_were, stands_edited}
use Rattle.run.proofs.run.Run.put.Goals as goal

pub returns-in_err-ensure_editable-clause-serves : goal.returns-in_err-ensure_editable-clause-serves
returns-in_err-ensure_editable-clause-serves g c = λ records given number calls met counts.
    let p = err_from_is_err_and c.from_residual.result c.from_residual.ensures.1 in
    let t = after g.K.Summary.joins g.K.Station.rules (terms_of given number records) calls in
    served_uneditable (put_call c.args.position c.args.entry) done _ c.args.position c.ensure_editable.result c.from_residual.result _ (put_outcome g.K.Summary.joins g.K.Station.rules (terms_of given number records) t c.args.position c.args.entry) c.ensure_editable.ensures c.in_err-ensure_editable.was (let e = p.1 in let y = p.2 in cc) met

pub returns : goal.returns
returns g c = record {
  serves = λ records given number calls met counts.
      let j = g.K.Summary.joins in
      let k = g.K.Station.rules in
      let laws = g.met.K.Summary.laws in
      let steps = g.met.K.Station.steps in
      let agree = g.met.K.Station.agreement in
      let run = c.args.self.now in
      let cells = run.cells.now in
      let t = after j k (terms_of given number records) calls in
      let es = t.entries in
      let size = met.counted in
      let within = within_were met in
      let free = editable t.tried run.trial c.args.position run.length _ _ met.trying c.ensure_editable.ensures c.in_ok-ensure_editable.was in
      let idle = free.idle in
      let kept = kept_counts laws steps agree (length es) t.tried met.trials in
      let p = c.args.position in
      let e = c.args.entry in
      let s = c.entry_summary.result in
      let fine = put_counts k c.args.position e counts in
      let lt : p < length es = omega (arith, free.within) in
      let long = length-set es p e in
      served_granted (put_call c.args.position c.args.entry) Done (trace (set es p e) t.tried)
      (put_outcome g.K.Summary.joins g.K.Station.rules (terms_of given number records) t p e ∙ gate_open t.tried (ltb p (length es)) _ _ _ idle (lt-ltb p (length es) lt))
      (stands_edited met (set es p e) _ idle refl refl (omega arith) (omega arith) (All-set (EntryCounts k) es p e fine met.items)
      (leaf_set laws steps agree (cells_were met) e p s lt within (c.in_ok-write_leaf.ensures.granted refl) met.items fine kept (sym (c.entry_summary.ensures fine).is)));
  keeps = record { refused = tt; same = refl };
}
