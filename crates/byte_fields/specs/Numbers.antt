-- Numbers as bytes, lowest byte first.
use Rattle.std.specs.Prelude.{ℕ, zero, suc, ◌+◌, ◌-◌, ◌*◌, ◌/◌, ◌%◌, cond, ◌&&◌, List, [], ◌∷◌, ◌++◌, take, drop, length, nat_le}
use Rattle.std.specs.List.{between}

-- the lowest digits of n to the base 256, so many as the width
abbrev pub digits : ℕ → ℕ → List ℕ
digits zero n = []
digits (suc width) n = n % 256 ∷ digits width (n / 256)

-- the number that bytes write
abbrev pub numeral : List ℕ → ℕ
numeral [] = 0
numeral (b ∷ bs) = b + 256 * numeral bs

-- the number that the bytes from one place up to another write
abbrev pub field : ℕ → ℕ → List ℕ → ℕ
field from to bs = numeral (between from to bs)

-- bytes with a number in those from one place up to another, if there are such bytes
abbrev pub with_field : ℕ → ℕ → ℕ → List ℕ → List ℕ
with_field from to n bs = cond (nat_le from to && nat_le to (length bs)) (take from bs ++ (digits (to - from) n ++ drop to bs)) bs
