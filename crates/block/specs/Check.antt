-- The check of a block.
use Rattle.std.specs.Prelude.{ℕ, ◌+◌, ◌*◌, List, [], ◌∷◌, take}

-- the sum of (i + 1) times byte i, where the first byte has the place i
abbrev pub weighed : ℕ → List ℕ → ℕ
weighed i [] = 0
weighed i (b ∷ bs) = (i + 1) * b + weighed (i + 1) bs

-- 1 plus that sum over the bytes in front of the check
abbrev pub check_of : List ℕ → ℕ
check_of bs = 1 + weighed 0 (take 508 bs)
