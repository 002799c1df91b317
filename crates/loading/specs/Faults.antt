-- The faults of loading a block: their layers, refusals and places.
use Rattle.std.specs.Prelude.{ℕ, List, [], ◌∷◌, ◌++◌, codes, decimal}
use Rattle.station.specs.Records.{record_fault}
use Rattle.station.specs.Refusals.{number_of}
use Rattle.station.specs.declared.refusals.Refusal.{Refusal}
use Rattle.station.specs.declared.refusals.Refusal.TheVariants.{TrialOpen, NoRoom, OtherKind}
use Rattle.station.specs.declared.records.RecordFault.{RecordFault}
use Rattle.block.specs.Faults.{block_fault}
use Rattle.loading.specs.declared.faults.LoadCause.{LoadCause}
use Rattle.loading.specs.declared.faults.LoadCause.TheVariants as cause
use Rattle.loading.specs.declared.faults.LoadFault.{LoadFault}
use Rattle.loading.specs.declared.faults.RecordsFault.{RecordsFault}

abbrev pub records_fault : ℕ → RecordFault → RecordsFault
records_fault at fault = record { index = at; fault = fault }

abbrev pub load_fault : LoadCause → ℕ → LoadFault
load_fault cause size = record { cause = cause; length = size }

-- the layers, and how they are printed
pub data Layer : Type 0 where
  block_layer record_layer load_layer : Layer

abbrev pub layer_text : Layer → List ℕ
layer_text block_layer = codes "block"
layer_text record_layer = codes "record"
layer_text load_layer = codes "load"

-- what a fault says: its layer, its refusal, and the places that this layer gives
pub record Report : Type 0 where
  pub layer : Layer
  pub refusal : Refusal
  pub places : List ℕ

abbrev pub report : Layer → Refusal → List ℕ → Report
report l r ps = record { layer = l; refusal = r; places = ps }

-- In the block layer the place of the block fault; in the record layer the record's number and the place in it; in the
-- load layer the length of the run.
abbrev pub cause_report : LoadCause → ℕ → Report
cause_report cause.TrialOpen size = report load_layer TrialOpen (size ∷ [])
cause_report cause.NoRoom size = report load_layer NoRoom (size ∷ [])
cause_report cause.OtherKind size = report load_layer OtherKind (size ∷ [])
cause_report (cause.Block f) size = report block_layer (block_fault f).refusal ((block_fault f).place ∷ [])
cause_report (cause.Record f) size = report record_layer (record_fault f.fault).refusal (f.index ∷ (record_fault f.fault).place ∷ [])

abbrev pub load_report : LoadFault → Report
load_report f = cause_report f.cause f.length

-- numbers one behind another, a blank before each
abbrev pub numbers_text : List ℕ → List ℕ
numbers_text [] = []
numbers_text (n ∷ ns) = codes " " ++ (decimal n ++ numbers_text ns)

abbrev pub fault_text : LoadFault → List ℕ
fault_text f = layer_text (load_report f).layer ++ numbers_text (number_of (load_report f).refusal ∷ (load_report f).places)
