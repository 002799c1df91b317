-- What the joining calls come to, on lists.
use Rattle.std.specs.Prelude.{◌≡◌, List, [], ◌∷◌, ◌++◌, map}
use Rattle.station.specs.Laws.{Joins}

-- the join of a list of summaries, the empty one for none
abbrev pub gathered : {S : Type 0} → Joins S → List S → S
gathered j [] = j.empty
gathered j (x ∷ xs) = j.joined x (gathered j xs)

-- the fronts of a list, from the one with its first element to the whole; `before` stands in front of each
abbrev pub fronts_behind : {X : Type 0} → List X → List X → List (List X)
fronts_behind before [] = []
fronts_behind before (x ∷ xs) = (before ++ (x ∷ [])) ∷ fronts_behind (before ++ (x ∷ [])) xs

abbrev pub fronts : {X : Type 0} → List X → List (List X)
fronts xs = fronts_behind [] xs

-- each summary replaced by the join of all up to it, itself with them
abbrev pub prefixes : {S : Type 0} → Joins S → List S → List S
prefixes j xs = map (gathered j) (fronts xs)

-- A value that a bracketing of the list has: the empty summary for none, a lone summary itself, else the join of values
-- that bracketings of a front part and of the rest have, neither part empty.
pub data Bracketing {S : Type 0} (j : Joins S) : List S → S → Type 0 where
  nothing : Bracketing j [] j.empty
  single : (x : S) → Bracketing j (x ∷ []) x
  both : (a b : S) (us vs : List S) (x y : S) → Bracketing j (a ∷ us) x → Bracketing j (b ∷ vs) y
      → Bracketing j ((a ∷ us) ++ (b ∷ vs)) (j.joined x y)

-- the answer of a gather: the join of the list, which every bracketing has for its value, and some bracketing does
pub record Gathers {S : Type 0} (j : Joins S) (xs : List S) (r : S) : Type 0 where
  pub is : r ≡ gathered j xs
  pub counts : j.is_summary r
  pub each : (v : S) → Bracketing j xs v → v ≡ r
  pub some : Bracketing j xs r
