-- How a pass begins.
use Rattle.std.specs.Prelude.{◌≡◌, ℕ, ◌+◌, List, [], ◌∷◌, ◌++◌, length, Some, None, Ok, Err, Option, Result}
use Rattle.std.specs.List.{AllByRecursion}
use Rattle.station.specs.declared.letters.Letter.{Letter}
use Rattle.block.specs.Layout.{Held, held_records, held_note}
use Rattle.block.specs.Reading.{read_of}
use Rattle.block.specs.declared.faults.BlockFault.{BlockFault}
use Rattle.loading.specs.Faults.{load_fault}
use Rattle.loading.specs.declared.faults.LoadCause.TheVariants as cause
use Rattle.recordings.specs.Faults.{pass_fault}
use Rattle.recordings.specs.Input.{Left}
use Rattle.recordings.specs.declared.opening.Opening.{Opening}
use Rattle.recordings.specs.declared.faults.PassFault.{PassFault}
use Rattle.recordings.specs.declared.faults.PassError.{PassError}
use Rattle.recordings.specs.declared.faults.PassError.TheVariants.{Input, Fault}

-- the letter of the kind that a block's content has, none for a note
abbrev pub letter_in : Result Held BlockFault → Result (Option Letter) BlockFault
letter_in (Ok (held_records l records)) = Ok (Some l)
letter_in (Ok (held_note text)) = Ok None
letter_in (Err f) = Err f

abbrev pub kind_of : List ℕ → Result (Option Letter) BlockFault
kind_of b = letter_in (read_of b)

-- the same, with the fault as that of a block with a number, which no run has loaded
abbrev pub numbered : ℕ → Result (Option Letter) BlockFault → Result (Option Letter) PassFault
numbered at (Ok kind) = Ok kind
numbered at (Err f) = Err (pass_fault at (load_fault (cause.Block f) 0))

abbrev pub kind_at : ℕ → List ℕ → Result (Option Letter) PassFault
kind_at at b = numbered at (kind_of b)

abbrev pub IsNote : List ℕ → Type 0
IsNote b = kind_of b ≡ Ok None

-- How a pass begins behind some notes: with a data block at hand, with no block behind them, or with a block at hand that
-- is none. So many blocks have been at hand before the first note, and now; a block's number is that of the notes in front.
abbrev pub Begins : List (List ℕ) → ℕ → ℕ → List ℕ → Result (Option Opening) PassError → Type 0
Begins notes before now b (Ok (Some o)) = (now ≡ before + length notes + 1) × ((o.index ≡ length notes) × (kind_of b ≡ Ok (Some o.letter)))
Begins notes before now b (Ok None) = now ≡ before + length notes
Begins notes before now b (Err (Fault f)) =
    (now ≡ before + length notes + 1)
    × ((e : BlockFault) × ((f ≡ pass_fault (length notes) (load_fault (cause.Block e) 0)) × (kind_of b ≡ Err e)))
Begins notes before now b (Err (Input e)) = Unit {0}

-- the number of the block at hand, where so many blocks have been at hand before the first note and now
abbrev pub NumberedFrom : ℕ → ℕ → Result (Option Opening) PassError → Type 0
NumberedFrom before now (Ok (Some o)) = before + o.index + 1 ≡ now
NumberedFrom before now (Ok None) = Unit {0}
NumberedFrom before now (Err (Fault f)) = before + f.index + 1 ≡ now
NumberedFrom before now (Err (Input e)) = Unit {0}

abbrev pub BeginsBehindNotes : ℕ → ℕ → List ℕ → Result (Option Opening) PassError → Type 0
BeginsBehindNotes before now b r = (notes : List (List ℕ)) × (AllByRecursion IsNote notes × Begins notes before now b r)

-- All blocks of an input are the notes, the block at hand behind them, if there is one, and those that the input still has.
abbrev pub ReadBy : List (List ℕ) → List (List ℕ) → List ℕ → Option (List ℕ) → Result (Option Opening) PassError → Type 0
ReadBy all notes b left (Ok (Some o)) = Left all (notes ++ (b ∷ [])) left
ReadBy all notes b left (Ok None) = all ≡ notes
ReadBy all notes b left (Err (Fault f)) = Left all (notes ++ (b ∷ [])) left
ReadBy all notes b left (Err (Input e)) = Unit {0}

-- how a pass begins that is all of these blocks
abbrev pub BeginsAll : List (List ℕ) → ℕ → ℕ → List ℕ → Option (List ℕ) → Result (Option Opening) PassError → Type 0
BeginsAll all before now b left r = (notes : List (List ℕ)) × (AllByRecursion IsNote notes × (Begins notes before now b r × ReadBy all notes b left r))
