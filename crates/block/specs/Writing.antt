-- What a writer answers and leaves.
use Rattle.std.specs.Prelude.{◌≡◌, ℕ, cond, List, ◌++◌, length, take, drop, is_ok, Ok, Err, Result, nat_lt}
use Rattle.block.specs.declared.faults.WriteFault.{WriteFault}
use Rattle.block.specs.declared.faults.WriteFault.TheVariants.{Memory, Items, Text}
use Rattle.block.specs.Layout.{Held, block_of}
use Rattle.block.specs.Reading.{read_of}

-- whether so many items, or so long a text, fit into a block
abbrev pub items_fit : ℕ → Result (Unit {0}) WriteFault
items_fit n = cond (nat_lt 31 n) (Err Items) (Ok tt)

abbrev pub text_fits : ℕ → Result (Unit {0}) WriteFault
text_fits n = cond (nat_lt 496 n) (Err Text) (Ok tt)

-- A writer refuses memory that is too short, and then what does not fit. It writes the block in front and leaves the
-- rest, or, refused, leaves all. What it wrote reads back.
pub record Writes (fit : Result (Unit {0}) WriteFault) (h : Held) (before now : List ℕ) (r : Result (Unit {0}) WriteFault) : Type 0 where
  pub is : r ≡ cond (nat_lt (length before) 512) (Err (Memory (length before))) fit
  pub memory : now ≡ cond (is_ok r) (block_of h ++ drop 512 before) before
  pub back : r ≡ Ok tt → read_of (take 512 now) ≡ Ok h
