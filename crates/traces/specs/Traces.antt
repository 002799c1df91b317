-- Traces of items and withdrawn entries: their replay, and the summaries of their pieces.
use Rattle.std.specs.Prelude.{◌≡◌, List, [], ◌∷◌, ◌++◌, map, Some, None}
use Rattle.traces.specs.Entries.{Entry}
use Rattle.station.specs.Laws.{Joins, Rules}
use Rattle.traces.specs.Lists.{gathered, fronts, Bracketing}

-- the items taken one after another, by the step alone
abbrev pub replayed : {S I D : Type 0} → Rules S I D → D → List I → D
replayed k d [] = d
replayed k d (i ∷ is) = replayed k (k.stepped d i) is

-- the items of a trace: a withdrawn entry has none, and so leaves every state as it is
abbrev pub items_of : {I : Type 0} → List (Entry I) → List I
items_of [] = []
items_of (Some i ∷ es) = i ∷ items_of es
items_of (None ∷ es) = items_of es

-- the replay of a trace
abbrev pub ran : {S I D : Type 0} → Rules S I D → D → List (Entry I) → D
ran k d es = replayed k d (items_of es)

-- the state behind each entry of a trace
abbrev pub states_along : {S I D : Type 0} → Rules S I D → D → List (Entry I) → List D
states_along k d es = map (ran k d) (fronts es)

abbrev pub EntryCounts : {S I D : Type 0} → Rules S I D → Entry I → Type 0
EntryCounts k (Some i) = k.is_item i
EntryCounts k None = Unit {0}

abbrev pub summary_of : {S I D : Type 0} → Joins S → Rules S I D → Entry I → S
summary_of j k (Some i) = k.of_item i
summary_of j k None = j.empty

-- the summary of a piece: the gather of its entries' summaries
abbrev pub piece_summary : {S I D : Type 0} → Joins S → Rules S I D → List (Entry I) → S
piece_summary j k es = gathered j (map (summary_of j k) es)

-- the pieces one behind another
abbrev pub strung : {X : Type 0} → List (List X) → List X
strung [] = []
strung (p ∷ ps) = p ++ strung ps

-- The summary of a trace. Cut the trace into any pieces, empty ones too, and join their summaries in any bracketing: the
-- value is this summary, and it takes every state where the replay of the trace takes it.
pub record Summarizes {S I D : Type 0} (j : Joins S) (k : Rules S I D) (trace : List (Entry I)) (r : S) : Type 0 where
  pub is : r ≡ piece_summary j k trace
  pub counts : j.is_summary r
  pub joined : (pieces : List (List (Entry I))) → strung pieces ≡ trace
      → (v : S) → Bracketing j (map (piece_summary j k) pieces) v
      → (v ≡ r) × ((d : D) → k.is_state d → k.effect v d ≡ ran k d trace)
