-- What the laws give of replays, joins and prefixes of lists, and one turn of each loop.
use Rattle.std.proofs.Common.{◌≡◌, ℕ, ◌+◌, ◌<◌, ◌≤◌, List, [], ◌∷◌, ◌++◌, map, length, get_or, take, drop, set, sym, refl, ap, ◌∙◌, subst, le_of_lt, arith}
use Rattle.std.specs.List.{AllByRecursion}
use Rattle.std.proofs.lemmas.List.{drop_more, append_assoc, set_at, get_or_at, length-take-le, length-map, map_push}
use Rattle.std.proofs.ByRecursion.{All-take, All-map, All-weaker}
use Rattle.station.specs.Laws.{Joins, JoinLaws, Rules, StationLaws, Gives}
use Rattle.traces.specs.Lists.{gathered, fronts, prefixes}
use Rattle.traces.specs.Traces.{replayed}
use Rattle.traces.proofs.Fronts.{all_read_lem, take_read, fronts_length, fronts_push, fronts_all}

module _ {S I D : Type 0} (k : Rules S I D) where
  pub replayed_append : (xs ys : List I) (d : D) → replayed k d (xs ++ ys) ≡ replayed k (replayed k d xs) ys
  replayed_append [] ys d = refl
  replayed_append (x ∷ xs) ys d = replayed_append xs ys (k.stepped d x)

module _ {S I D : Type 0} {j : Joins S} {k : Rules S I D} (steps : StationLaws j k) where
  pub replayed_counts : (xs : List I) (d : D) → k.is_state d → AllByRecursion k.is_item xs → k.is_state (replayed k d xs)
  replayed_counts [] d h all = h
  replayed_counts (x ∷ xs) d h all = replayed_counts xs (k.stepped d x) (steps.stepped_counts d x h all.0) all.1

  -- one turn of `replay`, from what the call of the step promised
  pub replay_turn : (xs : List I) (i : ℕ) (x : I) (d state after : D) → i < length xs → x ≡ get_or xs i x
      → (k.is_state d → AllByRecursion k.is_item xs → Gives k.is_state (replayed k d (take i xs)) state)
      → (k.is_state state → k.is_item x → Gives k.is_state (k.stepped state x) after)
      → k.is_state d → AllByRecursion k.is_item xs → Gives k.is_state (replayed k d (take (i + 1) xs)) after
  replay_turn xs i x d state after within read was called h all =
      let before = was h all in
      let next = called before.counts (all_read_lem k.is_item xs i x within read all) in
      record {
        is = next.is ∙ ap (λ y. k.stepped y x) before.is
            ∙ sym (ap (replayed k d) (take_read xs i x within read) ∙ replayed_append k (take i xs) (x ∷ []) d);
        counts = next.counts;
      }

module _ {S : Type 0} {j : Joins S} (laws : JoinLaws j) where
  pub gathered_counts : (xs : List S) → AllByRecursion j.is_summary xs → j.is_summary (gathered j xs)
  gathered_counts [] all = laws.empty_counts
  gathered_counts (x ∷ xs) all = laws.joined_counts x _ all.0 (gathered_counts xs all.1)

  pub gathered_append : (xs ys : List S) → AllByRecursion j.is_summary xs → AllByRecursion j.is_summary ys → gathered j (xs ++ ys) ≡ j.joined (gathered j xs) (gathered j ys)
  gathered_append [] ys ax ay = sym (laws.empty_left _ (gathered_counts ys ay))
  gathered_append (x ∷ xs) ys ax ay =
      ap (j.joined x) (gathered_append xs ys ax.1 ay)
      ∙ sym (laws.associative x _ _ ax.0 (gathered_counts xs ax.1) (gathered_counts ys ay))

  gathered_next : (xs : List S) (i : ℕ) (x : S) → i < length xs → x ≡ get_or xs i x → AllByRecursion j.is_summary xs → j.joined (gathered j (take i xs)) x ≡ gathered j (take (i + 1) xs)
  gathered_next xs i x within read all =
      let fx = all_read_lem j.is_summary xs i x within read all in
      let front = All-take j.is_summary i xs all in
      sym (ap (gathered j) (take_read xs i x within read)
      ∙ gathered_append (take i xs) (x ∷ []) front (fx, tt)
      ∙ ap (j.joined (gathered j (take i xs))) (laws.empty_right x fx))

  -- one turn of a loop that joins the elements, from what the call of the join promised
  pub gather_turn : (xs : List S) (i : ℕ) (x sum after : S) → i < length xs → x ≡ get_or xs i x
      → (AllByRecursion j.is_summary xs → Gives j.is_summary (gathered j (take i xs)) sum)
      → (j.is_summary sum → j.is_summary x → Gives j.is_summary (j.joined sum x) after)
      → AllByRecursion j.is_summary xs → Gives j.is_summary (gathered j (take (i + 1) xs)) after
  gather_turn xs i x sum after within read was called all =
      let before = was all in
      let next = called before.counts (all_read_lem j.is_summary xs i x within read all) in
      record {
        is = next.is ∙ ap (λ y. j.joined y x) before.is ∙ gathered_next xs i x within read all;
        counts = next.counts;
      }

  pub prefixes_count : (xs : List S) → AllByRecursion j.is_summary xs → AllByRecursion j.is_summary (prefixes j xs)
  prefixes_count xs all = All-map j.is_summary (gathered j) (fronts xs) (All-weaker (AllByRecursion j.is_summary) (λ f. j.is_summary (gathered j f)) gathered_counts (fronts xs) (fronts_all j.is_summary [] xs tt all))

  prefixes_push : (xs : List S) (y : S) → prefixes j (xs ++ (y ∷ [])) ≡ prefixes j xs ++ (gathered j (xs ++ (y ∷ [])) ∷ [])
  prefixes_push xs y = ap (map (gathered j)) (fronts_push [] xs y) ∙ map_push (gathered j) (fronts xs) (xs ++ (y ∷ []))

  -- one turn of `prefix`, over what stood in the slice at first
  pub prefix_turn : (old : List S) (i : ℕ) (xs : List S) (x sum after : S) → i < length old → x ≡ get_or xs i x
      → (AllByRecursion j.is_summary old → Gives j.is_summary (gathered j (take i old)) sum × (xs ≡ prefixes j (take i old) ++ drop i old))
      → (j.is_summary sum → j.is_summary (get_or xs i x) → Gives j.is_summary (j.joined sum (get_or xs i x)) after)
      → AllByRecursion j.is_summary old → Gives j.is_summary (gathered j (take (i + 1) old)) after × (set xs i after ≡ prefixes j (take (i + 1) old) ++ drop (i + 1) old)
  prefix_turn old i xs x sum after within read was called all =
      let done : List S = prefixes j (take i old) in
      let rest : List S = drop (i + 1) old in
      let y : S = get_or old i x in
      let size : length done ≡ i = length-map (fronts (take i old)) (gathered j) ∙ fronts_length [] (take i old) ∙ length-take-le i old (le_of_lt within) in
      let split : xs ≡ done ++ (y ∷ rest) = (was all).1 ∙ ap (λ r. done ++ r) (drop_more old i x within) in
      let same : x ≡ get_or old i x = read ∙ ap (λ r. get_or r i x) split ∙ get_or_at done y rest x i size in
      let next : Gives j.is_summary (gathered j (take (i + 1) old)) after = gather_turn old i x sum after within same (λ h. (was h).0) (subst (λ v. j.is_summary sum → j.is_summary v → Gives j.is_summary (j.joined sum v) after) (sym read) called) all in
      let more : take (i + 1) old ≡ take i old ++ (x ∷ []) = take_read old i x within same in
      let grown : prefixes j (take (i + 1) old) ≡ done ++ (after ∷ []) =
      ap (prefixes j) more ∙ prefixes_push (take i old) x
      ∙ ap (λ v. done ++ (v ∷ [])) (sym (next.is ∙ ap (gathered j) more)) in (
        next,
        ap (λ r. set r i after) split ∙ set_at done y rest after i size
            ∙ sym (append_assoc done (after ∷ []) rest)
            ∙ ap (λ r. r ++ rest) (sym grown),
      )

-- one turn of `spread`: f of each element is written behind those before it
pub write_turn : {X Y : Type 0} (f : X → Y) (P : X → Type 0) (xs : List X) (old : List Y) (i : ℕ) (ys : List Y) (x : X) (y : Y)
    → i < length xs → length xs ≤ length old → x ≡ get_or xs i x
    → (AllByRecursion P xs → ys ≡ map f (take i xs) ++ drop i old)
    → (P x → y ≡ f x)
    → AllByRecursion P xs → set ys i y ≡ map f (take (i + 1) xs) ++ drop (i + 1) old
write_turn f P xs old i ys x y within room read was called all =
    let in_old : i < length old = omega arith in
    let done = map f (take i xs) in
    let rest = drop (i + 1) old in
    let o = get_or old i y in
    let size : length done ≡ i = length-map (take i xs) f ∙ length-take-le i xs (le_of_lt within) in
    let split : ys ≡ done ++ (o ∷ rest) = was all ∙ ap (λ r. done ++ r) (drop_more old i y in_old) in
    let y_is : y ≡ f x = called (all_read_lem P xs i x within read all) in
    let grown : map f (take (i + 1) xs) ≡ done ++ (y ∷ []) =
    ap (map f) (take_read xs i x within read) ∙ map_push f (take i xs) x ∙ ap (λ v. done ++ (v ∷ [])) (sym y_is) in
    ap (λ r. set r i y) split ∙ set_at done o rest y i size
    ∙ sym (append_assoc done (y ∷ []) rest)
    ∙ ap (λ r. r ++ rest) (sym grown)
