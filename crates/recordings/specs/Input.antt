-- The blocks of an input.
use Rattle.std.specs.Prelude.{◌≡◌, ℕ, zero, suc, List, [], ◌∷◌, ◌++◌, length, take, drop, Some, None, Option, Result, IfErr, ◌≢◌}
use Rattle.std.specs.IoError.{error_kind}
use Rattle.std.specs.declared.io.Error.{Error}
use Rattle.std.specs.declared.io.ErrorKind.TheVariants as kind

-- bytes cut into blocks of 512, so many at most, of which only the last may be short
abbrev pub blocks_within : ℕ → List ℕ → List (List ℕ)
blocks_within zero bytes = []
blocks_within (suc n) [] = []
blocks_within (suc n) (b ∷ bytes) = take 512 (b ∷ bytes) ∷ blocks_within n (drop 512 (b ∷ bytes))

-- all of them: there are no more blocks than bytes
unfoldable pub blocks_of : List ℕ → List (List ℕ)
blocks_of bytes = blocks_within (length bytes) bytes

-- The next block is made of the next 512 bytes of an input, or as many as there are, and these are then read. So much
-- holds where the bytes of the input are known.
abbrev pub GivesBlock : Option (List ℕ) → Option (List ℕ) → List ℕ → Type 0
GivesBlock None after block = Unit {0}
GivesBlock (Some bytes) after block = (block ≡ take 512 bytes) × (after ≡ Some (drop 512 bytes))

-- Of all blocks of an input some were read, and it still has the others.
abbrev pub Left : List (List ℕ) → List (List ℕ) → Option (List ℕ) → Type 0
Left all read None = ⊥
Left all read (Some bytes) = all ≡ read ++ blocks_of bytes

-- an answer that is no interruption
abbrev pub IsUninterrupted : {X : Type 0} → Result X Error → Type 0
IsUninterrupted r = IfErr r (λ e. error_kind e ≢ kind.Interrupted)
