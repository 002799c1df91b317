-- Bytes that must be zero.
use Rattle.std.specs.Prelude.{◌≡◌, ℕ, ◌+◌, ◌<◌, Bool, not, List, length, replicate, position, Some, None, Option, ◌==◌, slice_index, Ok, Err, Result}
use Rattle.std.specs.List.{between}
use Rattle.byte_fields.specs.declared.unused.UsedByte.{UsedByte}

-- n zeros
unfoldable pub zeros : ℕ → List ℕ
zeros n = replicate n 0

-- whether a byte is used
abbrev pub is_used : ℕ → Bool
is_used b = not (b == 0)

-- the place of the first byte that is used
abbrev pub first_used : List ℕ → Option ℕ
first_used bs = position is_used bs

-- what the lowest used place is: a byte that is not 0, behind zeros alone; and none, where all are zero
abbrev pub Lowest : List ℕ → Option ℕ → Type 0
Lowest bs None = bs ≡ zeros (length bs)
Lowest bs (Some i) = (i < length bs) × (0 < slice_index bs i) × ((k : ℕ) → k < i → slice_index bs k ≡ 0)

-- the answer for bytes from a place on, whose lowest used one is so far behind it
abbrev pub unless_at : ℕ → Option ℕ → Result (Unit {0}) UsedByte
unless_at from None = Ok tt
unless_at from (Some k) = Err (record { place = from + k })

-- bytes that must be zero from one place up to another
abbrev pub unused_between : ℕ → ℕ → List ℕ → Result (Unit {0}) UsedByte
unused_between from to bs = unless_at from (first_used (between from to bs))
