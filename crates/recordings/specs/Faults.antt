-- Why a pass is not read to its end.
use Rattle.std.specs.Prelude.{ℕ, Ok, Err, Result}
use Rattle.loading.specs.declared.faults.LoadFault.{LoadFault}
use Rattle.recordings.specs.declared.faults.PassFault.{PassFault}
use Rattle.recordings.specs.declared.faults.PassError.{PassError}
use Rattle.recordings.specs.declared.faults.PassError.TheVariants.{Input, Fault}

abbrev pub pass_fault : ℕ → LoadFault → PassFault
pass_fault at f = record { index = at; fault = f }

-- a fact about the fault of a block that is refused, if one is
abbrev pub IfFault : {X : Type 0} → Result X PassError → (PassFault → Type 0) → Type 0
IfFault (Ok x) P = Unit {0}
IfFault (Err (Input e)) P = Unit {0}
IfFault (Err (Fault f)) P = P f
