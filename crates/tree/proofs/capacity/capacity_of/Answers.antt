use Rattle.std.proofs.Common.{arith}
use Rattle.std.proofs.Math.Pow.{pow-lt}
use Rattle.tree.proofs.Capacities.{few_cells, power_room, is_capacity}
use Rattle.tree.proofs.capacity.capacity_of.Goals as goal

pub returns-in-Some : goal.returns-in-Some
returns-in-Some c =
    let k = c.in-Some.power in
    let bound = c.in-Some.ensures.bound in
    let small = pow-lt {i = k} {j = 64} bound in
    let fit = c.in-Some.ensures.power_le in
    let next = c.in-Some.ensures.next_power_gt in
    let found = power_room c.args.cells c.min.result k (omega arith) (omega arith) (omega (arith, c.min.ensures)) in
    record { is = is_capacity c.args.cells c.min.result found; largest = found }

pub returns-in-None : goal.returns-in-None
returns-in-None c =
    let none = c.in-None.ensures.none in
    let found = few_cells 4096 c.args.cells (omega arith) in
    record { is = is_capacity c.args.cells 0 found; largest = found }
