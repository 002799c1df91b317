-- The refusals and their numbers.
use Rattle.std.specs.Prelude.{ℕ, List, ◌++◌, codes, decimal}
use Rattle.station.specs.declared.refusals.Refusal.{Refusal}
use Rattle.station.specs.declared.refusals.Refusal.TheVariants.{TrialOpen, NoRoom, NoSuchPosition, NothingToSettle, ItemLimit, StateLimit, BlockLength, BlockCheck, Layout, OtherKind, ShortMemory}

abbrev pub number_of : Refusal → ℕ
number_of TrialOpen = 1
number_of NoRoom = 2
number_of NoSuchPosition = 3
number_of NothingToSettle = 4
number_of ItemLimit = 5
number_of StateLimit = 6
number_of BlockLength = 7
number_of BlockCheck = 8
number_of Layout = 9
number_of OtherKind = 10
number_of ShortMemory = 11

-- how a refusal is printed
abbrev pub refusal_text : Refusal → List ℕ
refusal_text r = codes "refused with " ++ decimal (number_of r)
