use Rattle.std.proofs.Common.{◌≡◌, ◌++◌, map, length, drop, ap, ◌∙◌, arith}
use Rattle.std.proofs.lemmas.List.{take_all, length-set, drop-set-lt}
use Rattle.traces.proofs.Folds.{write_turn}
use Rattle.traces.proofs.Pieces.{spreads}
use Rattle.traces.proofs.spreading.write_effects.Goals as goal

pub loop-k-preserved : goal.loop-k-preserved
loop-k-preserved g c =
    let r = g.K.Station.rules in (
      omega arith,
      length-set _ _ _ ∙ c.loop-k.invariant.1,
      drop-set-lt (length c.args.fronts.now) c.loop-k.memory c.loop-k.k _ (omega arith) ∙ c.loop-k.invariant.2,
      λ h. write_turn (λ p. r.effect p c.args.start) g.K.Summary.joins.is_summary c.args.fronts.now c.args.memory.now c.loop-k.k c.loop-k.memory
          c.index-fronts-k.result c.effect.result c.loop-k-test.true c.requires c.index-fronts-k.is
          (c.loop-k.invariant.3 h) (λ s. (c.effect.ensures s h).is),
    )

pub returns : goal.returns
returns g c =
    let r = g.K.Station.rules in
    let f : g.row.K.Denot → g.row.K-State.Denot = λ p. r.effect p c.args.start in
    let xs = c.args.fronts.now in
    let old = c.args.memory.now in
    let all : c.loop-k.k ≡ length xs = omega arith in
    spreads g.met.K.Summary.laws g.met.K.Station.steps g.met.K.Station.agreement c.args.start xs old c.loop-k.memory c.loop-k.invariant.2
    (λ h fit. c.loop-k.invariant.3 h fit
    ∙ ap (λ l. map f l ++ drop c.loop-k.k old) (take_all c.loop-k.k xs c.loop-k-test.false)
    ∙ ap (λ n. map f xs ++ drop n old) all)
