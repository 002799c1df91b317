use Rattle.std.proofs.Common.{◌≡◌, ◌-◌, ap, ◌∙◌, arith}
use Rattle.lock.specs.Maps.{packed_from, through}
use Rattle.lock.proofs.maps.compose.Goals as goal

pub returns : goal.returns
returns c =
    let last : c.loop-state.state ≡ 0 = omega arith in
    c.loop-state.invariant ∙ ap (λ s. packed_from (through c.args.earlier c.args.later) s (8 - s)) last
