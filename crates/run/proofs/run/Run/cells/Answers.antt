use Rattle.std.proofs.Common.{refl}
use Rattle.run.proofs.Onlies.{one_list}
use Rattle.run.proofs.run.Run.cells.Goals as goal

pub returns : goal.returns
returns g c = record { is = refl; only = λ records given number calls met. (met.cells, λ others are. one_list are met.cells) }
