-- An item that was read came past the unused bytes.
use Rattle.std.proofs.Common.{◌≡◌, ℕ, Some, None, Ok, Option, Result, refl, arith}
use Rattle.station.specs.Records.{unless_used}
use Rattle.station.specs.declared.records.RecordFault.{RecordFault}

pub unless_used_lem : {I : Type 0} (from : ℕ) (used : Option ℕ) (rest : Result I RecordFault) (i : I) → unless_used from used rest ≡ Ok i → (used ≡ None) × (rest ≡ Ok i)
unless_used_lem from None rest i p = (refl, p)
unless_used_lem from (Some k) rest i p = let z : ◌≡◌ {A = ℕ} 0 1 = cc in absurd (omega arith)
