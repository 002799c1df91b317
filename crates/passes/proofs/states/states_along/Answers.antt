use Rattle.std.proofs.Common.{◌+◌, ◌-◌, vec_items, ap, arith}
use Rattle.passes.proofs.Along.{states_turn, states_end}
use Rattle.passes.proofs.states.states_along.Goals as goal
use Rattle.passes.proofs.states.states_along.Goals.{else-loop-count-test, then-loop-count-test+in_ok-state+in_ok-push+else-count-count-end}

pub loop-count-preserved : goal.loop-count-preserved
loop-count-preserved g c =
    states_turn c.args.run.now c.args.start c.in_ok-state.field-0 (c.loop-count.count - 1) c.loop-count.count (c.loop-count.count + 1 - 1)
    (vec_items c.loop-count.states) (vec_items c.push.new.self) (omega arith) (omega arith)
    c.loop-count.invariant c.in_ok-state.ensures c.in_ok-push.ensures.items

pub returns : goal.returns
returns g c =
    elim c.loop-count-test.branch [
      | else-loop-count-test w ↦
          states_end c.args.run.now c.args.start c.length-count-end.result (c.loop-count.count - 1)
          (vec_items c.loop-count.states) (vec_items c.loop-count-test.states) (ap vec_items w.states-is)
          c.loop-count.invariant c.length-count-end.ensures (omega arith)
      | then-loop-count-test+in_ok-state+in_ok-push+else-count-count-end w ↦
          states_end c.args.run.now c.args.start c.length-count-end.result c.loop-count.count
          (vec_items w.push.new.self) (vec_items c.loop-count-test.states) (ap vec_items w.states-is)
          (states_turn c.args.run.now c.args.start w.in_ok-state.field-0 (c.loop-count.count - 1) c.loop-count.count c.loop-count.count
          (vec_items c.loop-count.states) (vec_items w.push.new.self) (omega arith) (omega arith)
          c.loop-count.invariant w.in_ok-state.ensures w.in_ok-push.ensures.items)
          c.length-count-end.ensures (omega arith)
    ]
