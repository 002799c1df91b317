-- The block at hand, its number, how many have been, and what the input has behind it.
use Rattle.std.specs.Prelude.{ℕ, ◌-◌, List, Option, take}
use Rattle.recordings.specs.declared.blocks.Blocks.{Blocks}

abbrev pub at_hand : {R : Type 0} → Blocks R → List ℕ
at_hand b = take b.filled b.block

abbrev pub read_count : {R : Type 0} → Blocks R → ℕ
read_count b = b.count

-- The number of the last block that was read, from 0 on, and 0 in front of the first.
abbrev pub number_at_hand : {R : Type 0} → Blocks R → ℕ
number_at_hand b = read_count b - 1

-- the bytes behind the block at hand, where they are known
abbrev pub unread : {R : Type 0} → (R → Option (List ℕ)) → Blocks R → Option (List ℕ)
unread remaining b = remaining b.input
