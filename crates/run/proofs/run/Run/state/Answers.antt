use Rattle.std.proofs.Common.{◌≡◌, ℕ, ◌-◌, ◌&&◌, leb, length, take, Err, sym, ap, ◌∙◌, subst, inl, inr, arith}
use Rattle.std.proofs.ByRecursion.{All-take}
use Rattle.std.proofs.lemmas.Result.{err_from_is_err_and}
use Rattle.std.proofs.lemmas.Bool.{le-leb, cond-true, cond-false}
use Rattle.station.specs.declared.refusals.Refusal.TheVariants.{NoSuchPosition}
use Rattle.traces.specs.Traces.{EntryCounts, piece_summary, ran}
use Rattle.traces.proofs.Pieces.{piece_counts, piece_effect}
use Rattle.run.specs.Calls.{AskState, StateIs, answer_by}
use Rattle.run.specs.Rules.{Grant, Refuse, after, piece}
use Rattle.run.specs.Standing.{terms_of}
use Rattle.run.proofs.Outcomes.{served_refused, served_granted}
use Rattle.run.proofs.Steps.{stretch_result, and_failed_behind, and_held_behind}
use Rattle.run.proofs.run.Run.state.Goals as goal

pub returns-in_err-front : goal.returns-in_err-front
returns-in_err-front g c = λ records given number calls met counts.
    let j = g.K.Summary.joins in
    let k = g.K.Station.rules in
    let n = c.args.entries in
    let t = after j k (terms_of given number records) calls in
    let es = t.entries in
    let told = stretch_result (leb 0 n && leb n (length es)) (piece_summary j k (piece es 0 n)) t c.stretch.result (c.stretch.ensures.serves records given number calls met tt).answer in
    let p = err_from_is_err_and c.from_residual.result c.from_residual.ensures.1 in
    elim told [
      | inl a ↦ let same = sym a.1 ∙ c.in_err-front.was in let z : ◌≡◌ {A = ℕ} 0 1 = cc in absurd (omega arith)
      | inr b ↦
          let none = and_failed_behind (leb 0 n) (leb n (length es)) (le-leb 0 n (omega arith)) b.0 in
          let same : c.from_residual.result ≡ Err NoSuchPosition = (let was = sym c.in_err-front.was ∙ b.1 in let e = p.1 in let y = p.2 in cc) in
          served_refused (AskState n c.args.start) (answer_by StateIs c.from_residual.result) (cond-false _ _ _ none ∙ ap (λ x. Refuse (answer_by StateIs x)) (sym same)) met
    ]

pub returns : goal.returns
returns g c = λ records given number calls met counts.
    let j = g.K.Summary.joins in
    let k = g.K.Station.rules in
    let laws = g.met.K.Summary.laws in
    let steps = g.met.K.Station.steps in
    let agree = g.met.K.Station.agreement in
    let n = c.args.entries in
    let start = c.args.start in
    let t = after j k (terms_of given number records) calls in
    let es = t.entries in
    let front = piece es 0 n in
    let all = All-take (EntryCounts k) (n - 0) es met.items in
    let told = stretch_result (leb 0 n && leb n (length es)) (piece_summary j k front) t c.stretch.result (c.stretch.ensures.serves records given number calls met tt).answer in
    elim told [
      | inl a ↦
          let is : c.in_ok-front.front ≡ piece_summary j k front = (let same = sym c.in_ok-front.was ∙ a.1 in cc) in
          let fine = subst j.is_summary (sym is) (piece_counts laws steps agree front all) in
          let width : n - 0 ≡ n = omega arith in
          let made : c.effect.result ≡ ran k start (take n es) =
          (c.effect.ensures fine counts).is ∙ ap (λ s. k.effect s start) is ∙ piece_effect laws steps agree front start counts all ∙ ap (λ m. ran k start (take m es)) width in
          served_granted (AskState n start) (StateIs c.effect.result) t
          (cond-true _ _ _ (and_held_behind (leb 0 n) (leb n (length es)) (le-leb 0 n (omega arith)) a.0) ∙ ap (λ d. Grant (StateIs d) t) (sym made)) met
      | inr b ↦ let same = sym b.1 ∙ c.in_ok-front.was in let z : ◌≡◌ {A = ℕ} 0 1 = cc in absurd (omega arith)
    ]
