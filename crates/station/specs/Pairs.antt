-- Two kinds side by side: everything part by part.
use Rattle.std.specs.Prelude.{ℕ, List, ◌++◌, Some, None, codes, Option}
use Rattle.station.specs.Laws.{Joins, Rules}
use Rattle.station.specs.declared.pairing.Pair.{Pair}

abbrev pub pair : {X Y : Type 0} → X → Y → Pair X Y
pair x y = record { first = x; second = y }

abbrev pub Both : {X Y : Type 0} → (X → Type 0) → (Y → Type 0) → Pair X Y → Type 0
Both P Q p = P p.first × Q p.second

abbrev pub pair_joins : {S T : Type 0} → Joins S → Joins T → Joins (Pair S T)
pair_joins a b = record {
  is_summary = Both a.is_summary b.is_summary;
  empty = pair a.empty b.empty;
  joined = λ x y. pair (a.joined x.first y.first) (b.joined x.second y.second);
}

abbrev pub pair_rules : {S I D T J E : Type 0} → Rules S I D → Rules T J E → Rules (Pair S T) (Pair I J) (Pair D E)
pair_rules a b = record {
  is_item = Both a.is_item b.is_item;
  is_state = Both a.is_state b.is_state;
  stepped = λ d i. pair (a.stepped d.first i.first) (b.stepped d.second i.second);
  of_item = λ i. pair (a.of_item i.first) (b.of_item i.second);
  effect = λ x d. pair (a.effect x.first d.first) (b.effect x.second d.second);
}

-- how a pair is printed, where it is known of both parts
abbrev pub pair_text : Option (List ℕ) → Option (List ℕ) → Option (List ℕ)
pair_text None second = None
pair_text (Some first) None = None
pair_text (Some first) (Some second) = Some (first ++ (codes " " ++ second))
