use Rattle.std.proofs.Common.{sym, ap}
use Rattle.run.specs.Calls.{AskLength, LengthIs}
use Rattle.run.specs.Rules.{Grant, after}
use Rattle.run.specs.Standing.{terms_of}
use Rattle.run.proofs.Outcomes.{served_granted}
use Rattle.run.proofs.run.Run.length.Goals as goal

pub returns : goal.returns
returns g c = λ records given number calls met counts.
    let t = after g.K.Summary.joins g.K.Station.rules (terms_of given number records) calls in
    served_granted AskLength (LengthIs c.args.self.now.length) t (ap (λ n. Grant (LengthIs n) t) (sym met.counted)) met
