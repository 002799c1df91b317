-- The bytes of a block.
use Rattle.std.specs.Prelude.{◌≡◌, ℕ, ◌+◌, ◌-◌, ◌*◌, ◌/◌, ◌%◌, ◌≤◌, cond, List, ◌++◌, length, Some, None, Option, nat_lt}
use Rattle.std.specs.List.{between}
use Rattle.station.specs.declared.letters.Letter.{Letter}
use Rattle.byte_fields.specs.Numbers.{digits}
use Rattle.byte_fields.specs.Unused.{zeros}
use Rattle.block.specs.Check.{check_of}
use Rattle.block.specs.Heads.{head_bytes}
use Rattle.block.specs.declared.heads.Head.{Head}
use Rattle.block.specs.declared.heads.Head.TheVariants as head

-- what a block holds: the bytes of a kind's records, or those of a note's text
pub data Held : Type 0 where
  held_records : Letter → List ℕ → Held
  held_note : List ℕ → Held

-- bytes with their check behind them
abbrev pub sealed : List ℕ → List ℕ
sealed bs = bs ++ digits 4 (check_of bs)

-- a head, and the content that it announces
unfoldable pub framed : Head → List ℕ → List ℕ
framed h content = sealed (head_bytes h ++ (zeros 8 ++ (content ++ zeros (496 - length content))))

-- the block that holds something
abbrev pub block_of : Held → List ℕ
block_of (held_records l bs) = framed (head.Data l (length bs / 16)) bs
block_of (held_note text) = framed (head.Note (length text)) text

-- what a block has room for: whole records, or a text
abbrev pub HasRoom : Held → Type 0
HasRoom (held_records l bs) = (length bs % 16 ≡ 0) × (length bs ≤ 496)
HasRoom (held_note text) = length text ≤ 496

-- bytes that are the block of something
pub record IsBlock (bs : List ℕ) (h : Held) : Type 0 where
  pub is : bs ≡ block_of h
  pub room : HasRoom h

-- a record by its number
abbrev pub record_at : List ℕ → ℕ → Option (List ℕ)
record_at bs i = cond (nat_lt i (length bs / 16)) (Some (between (16 * i) (16 * i + 16) bs)) None
