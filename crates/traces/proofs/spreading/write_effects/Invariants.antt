use Rattle.std.proofs.Common.{◌≡◌, ◌≤◌, ◌++◌, map, length, take, drop}
use Rattle.std.specs.List.{AllByRecursion}
use Rattle.traces.proofs.spreading.write_effects.Given as goal

abbrev pub invariant-loop-k : goal.invariant-loop-k
invariant-loop-k g l =
    let r = g.K.Station.rules in
    (l.k ≤ length l.fronts)
    × (length l.memory ≡ length l.initial.memory)
    × (drop (length l.fronts) l.memory ≡ drop (length l.fronts) l.initial.memory)
    × (r.is_state l.start → AllByRecursion g.K.Summary.joins.is_summary l.fronts
    → l.memory ≡ map (λ p. r.effect p l.start) (take l.k l.fronts) ++ drop l.k l.initial.memory)
