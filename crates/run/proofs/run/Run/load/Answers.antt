use Rattle.std.proofs.Common.{◌≡◌, ◌+◌, ◌/◌, false, leb, MatchResult, rules, ◌++◌, map, length, Ok, Err, sym, refl, ap, ◌∙◌, subst, arith, Some}
use Rattle.std.proofs.ByRecursion.{All-append, All-map}
use Rattle.std.proofs.lemmas.List.{length-map, length-append}
use Rattle.std.proofs.lemmas.Result.{err_from_is_err_and, MatchResult-weaker}
use Rattle.std.specs.Result.{IsErrAnd}
use Rattle.std.proofs.lemmas.Bool.{le-leb, leb-true}
use Rattle.traces.specs.Traces.{EntryCounts}
use borrow.Rule.Slice.Mut.{set_vals}
use Rattle.block.specs.Reading.{read_of}
use Rattle.loading.specs.Faults.{load_fault}
use Rattle.loading.specs.Loading.{block_items}
use Rattle.loading.specs.declared.faults.LoadCause.TheVariants as cause
use Rattle.loading.proofs.RecordReads.{items_size, items_brought, items_refused}
use Rattle.tree.proofs.Capacities.{capacity_room}
use Rattle.tree.specs.Answers.{places_of, with_leaves}
use Rattle.tree.specs.Cells.{Rejoined}
use Rattle.run.specs.Calls.{Load, Loaded, NotLoaded, load_answer}
use Rattle.run.specs.Rules.{Grant, Refuse, after, trace}
use Rattle.run.specs.Standing.{terms_of}
use Rattle.run.specs.Serving.{Served}
use Rattle.run.proofs.Outcomes.{served_refused, served_granted, is_tried, gate_some, gate_idle}
use Rattle.run.proofs.CellSteps.{same_places, kept_counts, leaves_push}
use Rattle.run.proofs.Steps.{cells_were, stands_edited}
use Rattle.run.proofs.Loads.{marked, marked_ok, room_found, room_wanting, load_fault_lem, load_full, load_granted}
use Rattle.run.proofs.run.Run.load.Goals as goal

pub returns-in_err-map_err-clause-serves : goal.returns-in_err-map_err-clause-serves
returns-in_err-map_err-clause-serves g c = λ given number calls met counts.
    let run = c.args.self.now in
    let t = after g.K.Summary.joins g.K.Station.rules (terms_of given number g.K.Recorded.records) calls in
    let cases : MatchResult c.ensure_settled.result (λ v. c.map_err.result ≡ Ok v) (λ e. IsErrAnd c.map_err.result (λ f. f ≡ load_fault cause.TrialOpen run.length)) =
    MatchResult-weaker c.ensure_settled.result c.map_err.ensures.cases (λ v h. h) (λ e h. search rules) in
    let m = marked c.ensure_settled.result c.map_err.result c.in_err-map_err.field-0.0 (load_fault cause.TrialOpen run.length) cases c.in_err-map_err.was in
    let p = err_from_is_err_and c.from_residual.result c.from_residual.ensures.1 in
    let same : c.from_residual.result ≡ Err (load_fault cause.TrialOpen run.length) = (let e = p.1 in let y = p.2 in let z = m.1 in cc) in
    served_refused (Load c.args.bytes.now) (load_answer c.from_residual.result)
    (is_tried t.tried run.trial _ _ met.trying (gate_some run.trial _ _ c.ensure_settled.ensures m.0.1) ∙ ap (λ n. Refuse (NotLoaded (load_fault cause.TrialOpen n))) (sym met.counted) ∙ ap (λ r. Refuse (load_answer r)) (sym same)) met

pub returns-in_err-records-clause-serves : goal.returns-in_err-records-clause-serves
returns-in_err-records-clause-serves g c =
    let run = c.args.self.now in
    let r = g.K.Recorded.records in
    let p = err_from_is_err_and c.from_residual-in_err-records.result c.from_residual-in_err-records.ensures.1 in
    λ given number calls met counts.
    let t = after g.K.Summary.joins g.K.Station.rules (terms_of given number r) calls in
    let idle = gate_idle t.tried run.trial _ _ met.trying c.ensure_settled.ensures (marked_ok c.ensure_settled.result c.map_err.result c.in_ok-map_err.field-0 c.map_err.ensures.variant c.in_ok-map_err.was).1 in
    let f = c.in_err-records.field-0.0 in
    let is : block_items r (length t.entries) (read_of c.args.bytes.now) ≡ Err f =
    ap (λ n. block_items r n (read_of c.args.bytes.now)) (sym met.counted) ∙ items_refused r run.length (read_of c.args.bytes.now) f c.in_err-records.ensures in
    let same : c.from_residual-in_err-records.result ≡ Err f = (let e = p.1 in let y = p.2 in cc) in
    served_refused (Load c.args.bytes.now) (load_answer c.from_residual-in_err-records.result)
    (load_fault_lem (places_of given) t _ (block_items r (length t.entries) (read_of c.args.bytes.now)) idle f is ∙ ap (λ x. Refuse (load_answer x)) (sym same)) met

pub returns-in_err-map_err-2-clause-serves : goal.returns-in_err-map_err-2-clause-serves
returns-in_err-map_err-2-clause-serves g c =
    let j = g.K.Summary.joins in
    let k = g.K.Station.rules in
    let run = c.args.self.now in
    let cells = run.cells.now in
    let r = g.K.Recorded.records in
    let bs = c.in_ok-records.records.now in
    let cases : MatchResult c.append_records.result (λ v. c.map_err-2.result ≡ Ok v) (λ e. IsErrAnd c.map_err-2.result (λ f. f ≡ load_fault cause.NoRoom run.length)) =
    MatchResult-weaker c.append_records.result c.map_err-2.ensures.cases (λ v h. h) (λ e h. search rules) in
    let m = marked c.append_records.result c.map_err-2.result c.in_err-map_err-2.field-0.0 (load_fault cause.NoRoom run.length) cases c.in_err-map_err-2.was in
    let p = err_from_is_err_and c.from_residual-in_err-map_err-2.result c.from_residual-in_err-map_err-2.ensures.1 in
    let told : c.from_residual-in_err-map_err-2.result ≡ Err (load_fault cause.NoRoom run.length) = (let e = p.1 in let y = p.2 in let z = m.1 in cc) in
    let fail = room_wanting (leb (run.length + length bs / 16) (places_of cells)) c.append_records.result _ c.append_records.ensures.is m.0.1 in
    let left = ap (λ xs. record { cells = set_vals xs run.cells; length = run.length; number = run.number; trial = run.trial }) (c.append_records.ensures.refused fail.1) in
    λ given number calls met counts.
    let t = after j k (terms_of given number r) calls in
    let idle = gate_idle t.tried run.trial _ _ met.trying c.ensure_settled.ensures (marked_ok c.ensure_settled.result c.map_err.result c.in_ok-map_err.field-0 c.map_err.ensures.variant c.in_ok-map_err.was).1 in
    let b = items_brought r run.length (read_of c.args.bytes.now) bs c.in_ok-records.ensures in
    let size = items_size r bs b.items b.read in
    let same = same_places met.cells in
    let is : block_items r (length t.entries) (read_of c.args.bytes.now) ≡ Ok b.items =
    ap (λ n. block_items r n (read_of c.args.bytes.now)) (sym met.counted) ∙ b.brought in
    let wanting : leb (length t.entries + length b.items) (places_of given) ≡ false =
    ap (λ m. leb (length t.entries + m) (places_of given)) size ∙ (ap (λ m. leb (m + length bs / 16) (places_of given)) (sym met.counted) ∙ (ap (leb (run.length + length bs / 16)) (sym same) ∙ fail.0)) in
    subst (λ e. Served j k r given number calls (Load c.args.bytes.now) e (load_answer c.from_residual-in_err-map_err-2.result)) (sym left)
    (served_refused (Load c.args.bytes.now) (load_answer c.from_residual-in_err-map_err-2.result)
    (load_full (places_of given) t _ (block_items r (length t.entries) (read_of c.args.bytes.now)) idle b.items is wanting
    ∙ ap (λ n. Refuse (NotLoaded (load_fault cause.NoRoom n))) (sym met.counted) ∙ ap (λ x. Refuse (load_answer x)) (sym told)) met)

pub overflow_add-self : goal.overflow_add-self
overflow_add-self g c =
    let cells = c.args.self.now.cells.now in
    let bs = c.in_ok-records.records.now in
    let test = leb (c.args.self.now.length + length bs / 16) (places_of cells) in
    let fits = room_found test c.append_records.result _ c.append_records.ensures.is (marked_ok c.append_records.result c.map_err-2.result c.in_ok-map_err-2.field-0 c.map_err-2.ensures.variant c.in_ok-map_err-2.was).1 in
    let le = leb-true (c.args.self.now.length + length bs / 16) (places_of cells) fits.0 in
    let small = (capacity_room (length cells)).small in
    omega arith

pub returns : goal.returns
returns g c = record {
  serves = λ given number calls met counts.
      let j = g.K.Summary.joins in
      let k = g.K.Station.rules in
      let laws = g.met.K.Summary.laws in
      let steps = g.met.K.Station.steps in
      let agree = g.met.K.Station.agreement in
      let run = c.args.self.now in
      let cells = run.cells.now in
      let r = g.K.Recorded.records in
      let bs = c.in_ok-records.records.now in
      let t = after j k (terms_of given number r) calls in
      let es = t.entries in
      let idle = gate_idle t.tried run.trial _ _ met.trying c.ensure_settled.ensures (marked_ok c.ensure_settled.result c.map_err.result c.in_ok-map_err.field-0 c.map_err.ensures.variant c.in_ok-map_err.was).1 in
      let kept = kept_counts laws steps agree (length es) t.tried met.trials in
      let b = items_brought r run.length (read_of c.args.bytes.now) bs c.in_ok-records.ensures in
      let new = b.items in
      let size = items_size r bs new b.read in
      let same = same_places met.cells in
      let counted = met.counted in
      let is : block_items r (length es) (read_of c.args.bytes.now) ≡ Ok new = ap (λ n. block_items r n (read_of c.args.bytes.now)) (sym counted) ∙ b.brought in
      let fits = room_found (leb (run.length + length bs / 16) (places_of cells)) c.append_records.result _ c.append_records.ensures.is (marked_ok c.append_records.result c.map_err-2.result c.in_ok-map_err-2.field-0 c.map_err-2.ensures.variant c.in_ok-map_err-2.was).1 in
      let le = leb-true (run.length + length bs / 16) (places_of cells) fits.0 in
      let granted = c.append_records.ensures.granted fits.1 new b.read in
      let put = subst (λ p. Rejoined j (places_of cells) cells (with_leaves cells p (map k.of_item new)) c.append_records.new.cells) counted granted.1 in
      let more : length (map Some new) ≡ length new = length-map new Some in
      let long = length-append es (map Some new) in
      served_granted (Load c.args.bytes.now) (Loaded (length bs / 16)) (trace (es ++ map Some new) t.tried)
      (load_granted (places_of given) t _ (block_items r (length es) (read_of c.args.bytes.now)) idle new is (le-leb (length es + length new) (places_of given) (omega arith))
      ∙ ap (λ n. Grant (Loaded n) (trace (es ++ map Some new) t.tried)) size)
      (stands_edited met (es ++ map Some new) _ idle refl refl (omega arith) (omega arith)
      (All-append (EntryCounts k) es (map Some new) met.items (All-map (EntryCounts k) Some new granted.0))
      (leaves_push laws steps agree (cells_were met) new (map k.of_item new) refl (omega arith) put met.items granted.0 kept));
  keeps = record { refused = tt; same = refl };
}
