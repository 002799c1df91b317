-- What reading a block gives, and in which order it refuses.
use Rattle.std.specs.Prelude.{ℕ, ◌+◌, cond, List, length, Ok, Err, Result, ◌==◌}
use Rattle.std.specs.List.{between}
use Rattle.byte_fields.specs.Numbers.{field}
use Rattle.byte_fields.specs.Unused.{unused_between}
use Rattle.byte_fields.specs.declared.unused.UsedByte.{UsedByte}
use Rattle.block.specs.declared.faults.BlockFault.{BlockFault}
use Rattle.block.specs.declared.faults.BlockFault.TheVariants.{Length, Check, Layout}
use Rattle.block.specs.declared.reading.Block.{Block}
use Rattle.block.specs.declared.reading.Block.TheVariants as block
use Rattle.block.specs.declared.heads.Head.{Head}
use Rattle.block.specs.declared.heads.Head.TheVariants as head
use Rattle.block.specs.Check.{check_of}
use Rattle.block.specs.Heads.{content_size, head_of}
use Rattle.block.specs.Layout.{Held, held_records, held_note}

-- what an answer holds behind its references
abbrev pub held_in : Block → Held
held_in (block.Data l bs) = held_records l bs.now
held_in (block.Note text) = held_note text.now

abbrev pub held : Result Block BlockFault → Result Held BlockFault
held (Ok b) = Ok (held_in b)
held (Err e) = Err e

-- goes on with what was found, unless it is a fault
abbrev pub after : {X Y : Type 0} → Result X BlockFault → (X → Result Y BlockFault) → Result Y BlockFault
after (Ok x) f = f x
after (Err e) f = Err e

-- what the bytes that a head announces are
abbrev pub held_by : Head → List ℕ → Held
held_by (head.Data l count) content = held_records l content
held_by (head.Note size) content = held_note content

-- bytes that must be zero, from one place up to another
abbrev pub unused_by : Result (Unit {0}) UsedByte → Result (Unit {0}) BlockFault
unused_by (Ok u) = Ok u
unused_by (Err used) = Err (Layout used.place)

abbrev pub unused_in : ℕ → ℕ → List ℕ → Result (Unit {0}) BlockFault
unused_in from to bs = unused_by (unused_between from to bs)

-- the layout from the lowest byte on, and what the block holds
abbrev pub behind_of : List ℕ → Head → Unit {0} → Result Held BlockFault
behind_of bs h u = after (unused_in (12 + content_size h) 508 bs) (λ _. Ok (held_by h (between 12 (12 + content_size h) bs)))

abbrev pub rest_of : List ℕ → Head → Result Held BlockFault
rest_of bs h = after (unused_in 4 12 bs) (behind_of bs h)

abbrev pub laid_of : List ℕ → Result Held BlockFault
laid_of bs = after (head_of bs) (rest_of bs)

abbrev pub read_of : List ℕ → Result Held BlockFault
read_of bs =
    cond (length bs == 512) (cond (field 508 512 bs == check_of bs) (laid_of bs) (Err Check)) (Err (Length (length bs)))
