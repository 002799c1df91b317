use Rattle.std.proofs.Common.{◌≡◌, ◌∷◌, IfOk, vec_items, string_bytes, subst, ◌∙◌}
use Rattle.run.specs.Serving.{Tells}
use Rattle.traces.specs.Traces.{states_along}
use Rattle.recordings.specs.Hand.{at_hand, read_count, unread}
use Rattle.passes.specs.Reports.{Report, Told}
use Rattle.passes.proofs.Told.{report_broken, report_whole}
use Rattle.passes.proofs.reporting.report_kind.Goals as goal

pub returns-in-Ok : goal.returns-in-Ok
returns-in-Ok g c start text_of from shown state =
    subst (λ n. Told (unread g.R.Read.remaining c.args.blocks) (λ rest. Report g.K.Summary.joins g.K.Station.rules g.K.Recorded.records start text_of n (at_hand c.args.blocks ∷ rest)) (string_bytes c.in_ok-pass_text-in-Ok.field-0))
    c.index-first.ensures (report_whole g.K.Summary.joins g.K.Station.rules g.K.Recorded.records c.deref_mut.result.now (c.deref_mut.ensures.len ∙ c.in_ok-cells.ensures.len)
    start text_of c.index-first.result (read_count c.args.blocks) (at_hand c.args.blocks) (unread g.R.Read.remaining c.args.blocks) c.load_all.new.run (read_count c.load_all.new.blocks) c.in-Ok.field-0
    (vec_items c.in_ok-states-in-Ok.states) c.deref.result.now c.letter.result (string_bytes c.in_ok-pass_text-in-Ok.field-0)
    (c.in-Ok.ensures.loaded c.deref_mut.result.now 0 (c.open-run.ensures.met g.K.Recorded.records))
    (c.in-Ok.ensures.known c.deref_mut.result.now 0 (c.open-run.ensures.met g.K.Recorded.records))
    (subst (λ d. Tells g.K.Summary.joins g.K.Station.rules c.load_all.new.run (λ t. g.K.Station.rules.is_state d → vec_items c.in_ok-states-in-Ok.states ≡ states_along g.K.Station.rules d t.entries)) (from _ c.default.ensures) c.in_ok-states-in-Ok.ensures) state c.deref.ensures.value c.letter.ensures (c.in_ok-pass_text-in-Ok.ensures text_of shown))

pub returns : goal.returns
returns g c start text_of from shown state =
    subst (λ n. IfOk c.error_text.result (λ text. Told (unread g.R.Read.remaining c.args.blocks) (λ rest. Report g.K.Summary.joins g.K.Station.rules g.K.Recorded.records start text_of n (at_hand c.args.blocks ∷ rest)) (string_bytes text)))
    c.index-first.ensures (report_broken g.K.Summary.joins g.K.Station.rules g.K.Recorded.records c.deref_mut.result.now (c.deref_mut.ensures.len ∙ c.in_ok-cells.ensures.len)
    start text_of c.index-first.result (read_count c.args.blocks) (at_hand c.args.blocks) (unread g.R.Read.remaining c.args.blocks) c.load_all.new.run (read_count c.load_all.new.blocks) c.in-Err.error string_bytes c.error_text.result
    (c.in-Err.ensures.loaded c.deref_mut.result.now 0 (c.open-run.ensures.met g.K.Recorded.records))
    (c.in-Err.ensures.known c.deref_mut.result.now 0 (c.open-run.ensures.met g.K.Recorded.records))
    c.error_text.ensures)
