-- Faults that are passed up.
use Rattle.std.proofs.Common.{◌≡◌, Ok, Err, Result, sym, ap, subst}
use Rattle.std.specs.Prelude.{IsErrAnd}
use Rattle.recordings.specs.Faults.{IfFault}
use Rattle.recordings.specs.declared.faults.PassFault.{PassFault}
use Rattle.recordings.specs.declared.faults.PassError.{PassError}
use Rattle.recordings.specs.declared.faults.PassError.TheVariants.{Fault}

pub passed_up : {X : Type 0} (r : Result X PassError) (f : PassFault) → IsErrAnd r (λ e. e ≡ Fault f) → r ≡ Err (Fault f)
passed_up (Ok x) f h = absurd h
passed_up (Err e) f h = ap Err h

-- what is so of a fault is so of the answer in which it is passed up
pub of_passed : {X : Type 0} (P : PassFault → Type 0) (r : Result X PassError) (f : PassFault) → r ≡ Err (Fault f) → P f → IfFault r P
of_passed P r f passed fact = subst (λ q. IfFault q P) (sym passed) fact
