-- The first four bytes of a block.
use Rattle.std.specs.Prelude.{ℕ, ◌*◌, cond, List, ◌∷◌, Some, None, Ok, Err, Option, Result, ◌==◌, nat_lt, slice_index}
use Rattle.station.specs.Letters.{letter_byte, letter_of}
use Rattle.station.specs.declared.letters.Letter.{Letter}
use Rattle.byte_fields.specs.Numbers.{digits, field}
use Rattle.block.specs.declared.faults.BlockFault.{BlockFault}
use Rattle.block.specs.declared.faults.BlockFault.TheVariants.{Layout}
use Rattle.block.specs.declared.heads.Head.{Head}
use Rattle.block.specs.declared.heads.Head.TheVariants as head

-- the bytes that a head announces
abbrev pub content_size : Head → ℕ
content_size (head.Data l count) = 16 * count
content_size (head.Note size) = size

-- a letter, a number of records, and the size of a text; 78 is the letter N
abbrev pub head_bytes : Head → List ℕ
head_bytes (head.Data l count) = letter_byte l ∷ count ∷ digits 2 0
head_bytes (head.Note size) = 78 ∷ 0 ∷ digits 2 size

-- what those three announce, or the first of them that offends
abbrev pub data_head : Option Letter → ℕ → ℕ → Result Head BlockFault
data_head None count size = Err (Layout 0)
data_head (Some l) count size = cond (nat_lt 31 count) (Err (Layout 1)) (cond (size == 0) (Ok (head.Data l count)) (Err (Layout 2)))

abbrev pub note_head : ℕ → ℕ → Result Head BlockFault
note_head count size = cond (count == 0) (cond (nat_lt 496 size) (Err (Layout 2)) (Ok (head.Note size))) (Err (Layout 1))

abbrev pub head_at : ℕ → ℕ → ℕ → Result Head BlockFault
head_at letter count size = cond (letter == 78) (note_head count size) (data_head (letter_of letter) count size)

abbrev pub head_of : List ℕ → Result Head BlockFault
head_of bs = head_at (slice_index bs 0) (slice_index bs 1) (field 2 4 bs)
