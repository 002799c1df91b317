-- Faults with a place in bytes.
use Rattle.std.specs.Prelude.{ℕ}
use Rattle.station.specs.declared.refusals.Refusal.{Refusal}

-- a refusal, and the place that it names
pub record Placed : Type 0 where
  pub refusal : Refusal
  pub place : ℕ

abbrev pub placed : Refusal → ℕ → Placed
placed r at = record { refusal = r; place = at }
