-- The summary of a trace in pieces takes each state where the replay takes it.
use Rattle.std.proofs.Common.{◌≡◌, ℕ, ◌+◌, ◌<◌, List, [], ◌∷◌, ◌++◌, map, length, get_or, take, drop, sym, refl, ap, ◌∙◌, subst, Some, None}
use Rattle.std.specs.List.{AllByRecursion}
use Rattle.std.proofs.lemmas.List.{map-append, take-map, get_or-map, length-map, take_at}
use Rattle.std.proofs.ByRecursion.{All-map, All-weaker}
use Rattle.traces.specs.Entries.{Entry}
use Rattle.station.specs.Laws.{Joins, JoinLaws, Rules, StationLaws, Agreement, Gives}
use Rattle.traces.specs.Lists.{gathered, fronts, prefixes}
use Rattle.traces.specs.Spreading.{Spreads}
use Rattle.traces.specs.Traces.{EntryCounts, summary_of, ran, states_along, piece_summary, strung, Summarizes}
use Rattle.traces.proofs.Fronts.{all_read_lem, all_front, all_rest, map_alike, map_after, fronts_map, fronts_all}
use Rattle.traces.proofs.Folds.{gathered_append, gathered_counts, gather_turn, prefixes_count}
use Rattle.traces.proofs.Groupings.{bracketing_value}

module _ {S I D : Type 0} {j : Joins S} {k : Rules S I D} (laws : JoinLaws j) (steps : StationLaws j k) (agree : Agreement j k) where
  pub summary_counts : (e : Entry I) → EntryCounts k e → j.is_summary (summary_of j k e)
  summary_counts (Some i) t = steps.of_item_counts i t
  summary_counts None t = laws.empty_counts

  pub summaries_count : (es : List (Entry I)) → AllByRecursion (EntryCounts k) es → AllByRecursion j.is_summary (map (summary_of j k) es)
  summaries_count [] all = tt
  summaries_count (e ∷ es) all = (summary_counts e all.0, summaries_count es all.1)

  pub piece_counts : (es : List (Entry I)) → AllByRecursion (EntryCounts k) es → j.is_summary (piece_summary j k es)
  piece_counts es all = gathered_counts laws (map (summary_of j k) es) (summaries_count es all)

  -- the summary's effect is the replay
  pub piece_effect : (es : List (Entry I)) (d : D) → k.is_state d → AllByRecursion (EntryCounts k) es → k.effect (piece_summary j k es) d ≡ ran k d es
  piece_effect [] d h all = agree.empty d h
  piece_effect (Some i ∷ es) d h all =
      agree.join (k.of_item i) (piece_summary j k es) d (steps.of_item_counts i all.0) (piece_counts es all.1) h
      ∙ ap (k.effect (piece_summary j k es)) (steps.item_steps i d all.0 h)
      ∙ piece_effect es (k.stepped d i) (steps.stepped_counts d i h all.0) all.1
  piece_effect (None ∷ es) d h all =
      ap (λ s. k.effect s d) (laws.empty_left (piece_summary j k es) (piece_counts es all.1))
      ∙ piece_effect es d h all.1

  piece_append : (xs ys : List (Entry I)) → AllByRecursion (EntryCounts k) xs → AllByRecursion (EntryCounts k) ys → piece_summary j k (xs ++ ys) ≡ j.joined (piece_summary j k xs) (piece_summary j k ys)
  piece_append xs ys ax ay =
      ap (gathered j) (map-append (summary_of j k) xs ys)
      ∙ gathered_append laws (map (summary_of j k) xs) (map (summary_of j k) ys) (summaries_count xs ax) (summaries_count ys ay)

  pieces_count : (ps : List (List (Entry I))) → AllByRecursion (EntryCounts k) (strung ps) → AllByRecursion j.is_summary (map (piece_summary j k) ps)
  pieces_count [] all = tt
  pieces_count (p ∷ ps) all = (piece_counts p (all_front (EntryCounts k) p (strung ps) all), pieces_count ps (all_rest (EntryCounts k) p (strung ps) all))

  pieces_gathered : (ps : List (List (Entry I))) → AllByRecursion (EntryCounts k) (strung ps) → gathered j (map (piece_summary j k) ps) ≡ piece_summary j k (strung ps)
  pieces_gathered [] all = refl
  pieces_gathered (p ∷ ps) all =
      let rest = all_rest (EntryCounts k) p (strung ps) all in
      ap (j.joined (piece_summary j k p)) (pieces_gathered ps rest)
      ∙ sym (piece_append p (strung ps) (all_front (EntryCounts k) p (strung ps) all) rest)

  pub summarizes : (trace : List (Entry I)) (r : S) → AllByRecursion (EntryCounts k) trace → Gives j.is_summary (piece_summary j k trace) r → Summarizes j k trace r
  summarizes trace r all given = record {
    is = given.is;
    counts = given.counts;
    joined = λ pieces cut v b.
        let within : AllByRecursion (EntryCounts k) (strung pieces) = subst (AllByRecursion (EntryCounts k)) (sym cut) all in
        let value : v ≡ piece_summary j k trace =
        bracketing_value laws b (pieces_count pieces within) ∙ pieces_gathered pieces within ∙ ap (piece_summary j k) cut in
        (value ∙ sym given.is, λ d h. ap (λ s. k.effect s d) value ∙ piece_effect trace d h all);
  }

  -- one turn of `summarize`
  pub summarize_turn : (es : List (Entry I)) (i : ℕ) (e : Entry I) (next sum after : S) → i < length es → e ≡ get_or es i e
      → (AllByRecursion (EntryCounts k) es → Gives j.is_summary (piece_summary j k (take i es)) sum)
      → (EntryCounts k e → Gives j.is_summary (summary_of j k e) next)
      → (j.is_summary sum → j.is_summary next → Gives j.is_summary (j.joined sum next) after)
      → AllByRecursion (EntryCounts k) es → Gives j.is_summary (piece_summary j k (take (i + 1) es)) after
  summarize_turn es i e next sum after within read was made called all =
      let f = summary_of j k in
      let next_is : next ≡ f e = (made (all_read_lem (EntryCounts k) es i e within read all)).is in
      let long : i < length (map f es) = subst (λ n. i < n) (sym (length-map es f)) within in
      let at : next ≡ get_or (map f es) i next = next_is ∙ ap f read ∙ sym (get_or-map f es i e next within) in
      subst (λ l. Gives j.is_summary (gathered j l) after) (take-map f (i + 1) es)
      (gather_turn laws (map f es) i next sum after long at
      (λ _. subst (λ l. Gives j.is_summary (gathered j l) sum) (sym (take-map f i es)) (was all))
      called (summaries_count es all))

  -- the effects of a trace's prefixes on a start are the states that its replay goes through
  pub prefixes_replay : (es : List (Entry I)) (d : D) → k.is_state d → AllByRecursion (EntryCounts k) es → map (λ p. k.effect p d) (prefixes j (map (summary_of j k) es)) ≡ states_along k d es
  prefixes_replay es d h all =
      ap (λ fs. map (λ p. k.effect p d) (map (gathered j) fs)) (fronts_map (summary_of j k) [] es)
      ∙ map_after (gathered j) (λ p. k.effect p d) (map (map (summary_of j k)) (fronts es))
      ∙ map_after (map (summary_of j k)) (λ f. k.effect (gathered j f) d) (fronts es)
      ∙ map_alike (λ f. k.effect (piece_summary j k f) d) (ran k d) (AllByRecursion (EntryCounts k)) (λ f a. piece_effect f d h a) (fronts es) (fronts_all (EntryCounts k) [] es tt all)

  -- what `spread` has written, from the effects in their places
  pub spreads : (d : D) (sums : List S) (before after : List D) → drop (length sums) after ≡ drop (length sums) before
      → (k.is_state d → AllByRecursion j.is_summary sums → after ≡ map (λ p. k.effect p d) sums ++ drop (length sums) before)
      → Spreads j k d sums before after
  spreads d sums before after later wrote =
      let f : S → D = λ p. k.effect p d in
      let front : k.is_state d → AllByRecursion j.is_summary sums → take (length sums) after ≡ map f sums =
      λ h fit. ap (take (length sums)) (wrote h fit) ∙ take_at (map f sums) (drop (length sums) before) (length sums) (length-map sums f) in
      record {
        later = later;
        effects = wrote;
        counts = λ h fit. subst (AllByRecursion k.is_state) (sym (front h fit))
            (All-map k.is_state f sums (All-weaker j.is_summary (λ p. k.is_state (f p)) (λ p s. steps.effect_counts p d s h) sums fit));
        replays = λ h trace fit is.
            let sums-fit = subst (AllByRecursion j.is_summary) (sym is) (prefixes_count laws _ (summaries_count trace fit)) in
            front h sums-fit ∙ ap (map f) is ∙ prefixes_replay trace d h fit;
      }
