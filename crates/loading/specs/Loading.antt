-- What a block brings to a run of one kind.
use Rattle.std.specs.Prelude.{ℕ, ◌+◌, ◌/◌, cond, List, [], ◌∷◌, length, Ok, Err, Result, ◌==◌}
use Rattle.std.specs.Borrow.{Bor}
use Rattle.std.specs.Simd.{first_chunks}
use Rattle.station.specs.Letters.{letter_byte}
use Rattle.station.specs.Records.{Records}
use Rattle.station.specs.declared.records.RecordFault.{RecordFault}
use Rattle.block.specs.Layout.{Held, held_records, held_note}
use Rattle.block.specs.declared.faults.BlockFault.{BlockFault}
use Rattle.loading.specs.Faults.{records_fault, load_fault}
use Rattle.loading.specs.declared.faults.LoadCause.TheVariants as cause
use Rattle.loading.specs.declared.faults.LoadFault.{LoadFault}
use Rattle.loading.specs.declared.faults.RecordsFault.{RecordsFault}

-- a record with a number, read before the rest: the first fault counts
abbrev pub read_before : {I : Type 0} → ℕ → Result I RecordFault → Result (List I) RecordsFault → Result (List I) RecordsFault
read_before at (Err f) rest = Err (records_fault at f)
read_before at (Ok i) (Err f) = Err f
read_before at (Ok i) (Ok is) = Ok (i ∷ is)

-- the items of some records, of which the first has a number
abbrev pub read_from : {I : Type 0} → (List ℕ → Result I RecordFault) → ℕ → List (List ℕ) → Result (List I) RecordsFault
read_from reading at [] = Ok []
read_from reading at (one ∷ rest) = read_before at (reading one) (read_from reading (at + 1) rest)

-- the records of some bytes
abbrev pub records_of : List ℕ → List (List ℕ)
records_of bs = first_chunks 16 (length bs / 16) bs

abbrev pub record_items : {I : Type 0} → Records I → List ℕ → Result (List I) RecordsFault
record_items r bs = read_from r.reading 0 (records_of bs)

-- The bytes of a block's records for a run of some length, none for a note, or the fault: the block's, or another kind.
abbrev pub kind_records : {I : Type 0} → Records I → ℕ → Result Held BlockFault → Result (List ℕ) LoadFault
kind_records r size (Err f) = Err (load_fault (cause.Block f) size)
kind_records r size (Ok (held_note text)) = Ok []
kind_records r size (Ok (held_records l bs)) = cond (letter_byte l == letter_byte r.letter) (Ok bs) (Err (load_fault cause.OtherKind size))

-- what is made of records that were all read, or the fault of the first that was not
abbrev pub all_read : {I X : Type 0} → ℕ → (List I → X) → Result (List I) RecordsFault → Result X LoadFault
all_read size f (Ok is) = Ok (f is)
all_read size f (Err e) = Err (load_fault (cause.Record e) size)

abbrev pub all_read_of : {I X : Type 0} → Records I → ℕ → (List ℕ → List I → X) → Result (List ℕ) LoadFault → Result X LoadFault
all_read_of r size f (Ok bs) = all_read size (f bs) (record_items r bs)
all_read_of r size f (Err e) = Err e

-- what a block brings to a run: the bytes of its records, and the items that they are. The kind comes before the records.
abbrev pub block_records : {I : Type 0} → Records I → ℕ → Result Held BlockFault → Result (List ℕ) LoadFault
block_records r size h = all_read_of r size (λ bs is. bs) (kind_records r size h)

abbrev pub block_items : {I : Type 0} → Records I → ℕ → Result Held BlockFault → Result (List I) LoadFault
block_items r size h = all_read_of r size (λ bs is. is) (kind_records r size h)

-- whether all were read
abbrev pub checked : {X E : Type 0} → Result X E → Result (Unit {0}) E
checked (Ok x) = Ok tt
checked (Err e) = Err e

-- what an answer shows behind its reference
abbrev pub seen : {E : Type 0} → Result (Bor (List ℕ)) E → Result (List ℕ) E
seen (Ok bs) = Ok bs.now
seen (Err e) = Err e
