use Rattle.std.proofs.Common.{◌≡◌, ◌-◌}
use Rattle.lock.specs.Maps.{packed_from, through}
use Rattle.lock.proofs.maps.compose.Given as goal

abbrev pub invariant-loop-state : goal.invariant-loop-state
invariant-loop-state l = l.map ≡ packed_from (through l.earlier l.later) l.state (8 - l.state)
