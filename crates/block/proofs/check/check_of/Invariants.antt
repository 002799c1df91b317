use Rattle.std.proofs.Common.{◌≡◌, ◌+◌, ◌*◌, ◌≤◌, drop}
use Rattle.block.specs.Check.{weighed}
use Rattle.block.proofs.check.check_of.Given as goal

-- each byte adds at most 508 × 255
abbrev pub invariant-loop-i : goal.invariant-loop-i
invariant-loop-i l = record {
  rest : l.sum + weighed l.i (drop l.i l.front) ≡ 1 + weighed 0 l.front;
  bound : l.sum ≤ 1 + 129540 * l.i;
}
