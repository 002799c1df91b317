-- The cells of a trace once a call has written in them.
use Rattle.std.proofs.Common.{◌≡◌, ℕ, ◌+◌, ◌-◌, ◌*◌, ◌<◌, ◌≤◌, ◌≢◌, ◌⊎◌, List, [], ◌∷◌, ◌++◌, map, length, get_or, take, set, replicate, Some, None, Option, sym, refl, ap, ◌∙◌, subst, inl, inr, ⊎_elim, arith}
use Rattle.std.specs.List.{AllByRecursion}
use Rattle.std.proofs.ByRecursion.{All-get_or, All-set, All-append, All-push, All-take, All-map}
use Rattle.std.proofs.lemmas.List.{get_or-set_same, get_or-set_other, get_or_past, get_or_push, get_or_append_left, get_or-append_right, get_or-map, get_or-take, get_or-replicate, length-replicate, length-append, length-map, length_push, length-set, length-take-le}
use Rattle.std.proofs.lemmas.Bool.{cases_eq, cases_lt}
use Rattle.station.specs.Laws.{Joins, JoinLaws, Rules, StationLaws, Agreement}
use Rattle.traces.specs.Traces.{EntryCounts, summary_of}
use Rattle.traces.specs.Entries.{Entry}
use Rattle.traces.proofs.Pieces.{summary_counts}
use Rattle.tree.specs.Answers.{places_of, with_leaf, with_leaves, without_leaves, with_trial, with_old}
use Rattle.tree.specs.Capacity.{capacity}
use Rattle.tree.specs.Cells.{cell, AllCount, Rejoined}
use Rattle.tree.proofs.Capacities.{capacity_room}
use Rattle.tree.proofs.Pastes.{paste_before, paste_inside, paste_behind}
use Rattle.tree.proofs.Trees.{tree_first}
use Rattle.run.specs.Rules.{Trial, Trace, trace}
use Rattle.run.specs.Standing.{CellsOf, leaf_of, kept_of, TrialCounts}

-- as many places over the cells as over those given
pub same_places : {S I D : Type 0} {j : Joins S} {k : Rules S I D} {given : List S} {t : Trace I} {cells : List S} → CellsOf j k (places_of given) given t cells → places_of cells ≡ places_of given
same_places c = ap capacity c.size

module _ {S I D : Type 0} {j : Joins S} {k : Rules S I D} (laws : JoinLaws j) (steps : StationLaws j k) (agree : Agreement j k) where
  leaf_counts : (es : List (Entry I)) (i : ℕ) → AllByRecursion (EntryCounts k) es → j.is_summary (leaf_of j k es i)
  leaf_counts es i all =
      ⊎_elim (λ (l : i < length es). summary_counts laws steps agree (get_or es i None) (All-get_or (EntryCounts k) es i None l all))
      (λ (o : length es ≤ i). subst (λ e. j.is_summary (summary_of j k e)) (sym (get_or_past es i None o)) laws.empty_counts) (cases_lt i (length es))

  pub kept_counts : (m : ℕ) (o : Option (Trial I)) → TrialCounts k m o → j.is_summary (kept_of j k o)
  kept_counts m None h = laws.empty_counts
  kept_counts m (Some p) h = summary_counts laws steps agree p.old h.1

  -- Cells rejoined over what was wanted are those of a trace, where that has the trace's leaves and its kept summary.
  rejoined : {n : ℕ} {given before wanted after : List S} {t : Trace I} (u : Trace I) → CellsOf j k n given t before → Rejoined j n before wanted after
      → AllByRecursion (EntryCounts k) u.entries → j.is_summary (kept_of j k u.tried)
      → (0 < n → cell j wanted 0 ≡ kept_of j k u.tried)
      → ((i : ℕ) → i < n → cell j wanted (n + i) ≡ leaf_of j k u.entries i)
      → ((i : ℕ) → ((1 ≤ i) × (i < n)) ⊎ (2 * n ≤ i) → cell j wanted i ≡ cell j before i)
      → CellsOf j k n given u after
  rejoined {n} {given} {before} {wanted} {after} u was put items trials first leaf same =
      let leaf_there : (i : ℕ) → n ≤ i → i < 2 * n → j.is_summary (cell j wanted i) = λ i low high.
      let at : n + (i - n) ≡ i = omega arith in
      subst (λ x. j.is_summary (cell j wanted x)) at (subst j.is_summary (sym (leaf (i - n) (omega arith))) (leaf_counts u.entries (i - n) items)) in
      let first_there : (i : ℕ) → 0 < n → i ≤ 0 → j.is_summary (cell j wanted i) = λ i pos z.
      let none : 0 ≡ i = omega arith in
      subst (λ x. j.is_summary (cell j wanted x)) none (subst j.is_summary (sym (first pos)) trials) in
      let counts : AllCount j n wanted = λ i h.
      ⊎_elim
      (λ (l : 0 < i). ⊎_elim (λ (inner : i < n). subst j.is_summary (sym (same i (inl (l, inner)))) (was.tree.counts i h)) (λ (o : n ≤ i). leaf_there i o h) (cases_lt i n))
      (λ (z : i ≤ 0). first_there i (omega arith) z) (cases_lt 0 i) in
      record {
        size = put.long ∙ was.size;
        kept = λ h. put.others 0 (inl refl) ∙ first h;
        leaves = λ i h. put.others (n + i) (inr (omega arith)) ∙ leaf i h;
        tree = put.tree was.tree counts;
        past = λ i h. put.others i (inr (omega arith)) ∙ (same i (inr h) ∙ was.past i h);
      }

  module _ {given before after : List S} {t : Trace I} (was : CellsOf j k (places_of before) given t before) where
    -- one leaf written
    pub leaf_put : (es : List (Entry I)) (p : ℕ) (s : S) → p < places_of before → Rejoined j (places_of before) before (with_leaf before p s) after
        → AllByRecursion (EntryCounts k) es → j.is_summary (kept_of j k t.tried) → leaf_of j k es p ≡ s
        → ((i : ℕ) → i ≢ p → leaf_of j k es i ≡ leaf_of j k t.entries i)
        → CellsOf j k (places_of before) given (trace es t.tried) after
    leaf_put es p s lt put items trials here others =
        let n = places_of before in
        let held = (capacity_room (length before)).held in
        let none = j.empty in
        rejoined (trace es t.tried) was put items trials
        (λ h. get_or-set_other before (n + p) 0 s none (λ e. omega arith) ∙ was.kept h)
        (λ i h.
        ⊎_elim (λ (e : i ≡ p). subst (λ x. cell j (with_leaf before p s) (n + x) ≡ leaf_of j k es x) (sym e) (get_or-set_same before (n + p) s none (omega arith) ∙ sym here))
        (λ (ne : i ≢ p). get_or-set_other before (n + p) (n + i) s none (λ e. ne (omega arith)) ∙ (was.leaves i h ∙ sym (others i ne))) (cases_eq i p))
        (λ i h. get_or-set_other before (n + p) i s none (λ e. elim h [ inl a ↦ omega (arith, a.0, a.1) | inr b ↦ omega arith ]))

    -- one entry changed
    pub leaf_set : (e : Entry I) (p : ℕ) (s : S) → p < length t.entries → length t.entries ≤ places_of before → Rejoined j (places_of before) before (with_leaf before p s) after
        → AllByRecursion (EntryCounts k) t.entries → EntryCounts k e → j.is_summary (kept_of j k t.tried) → summary_of j k e ≡ s
        → CellsOf j k (places_of before) given (trace (set t.entries p e) t.tried) after
    leaf_set e p s lt within put items item trials is =
        leaf_put (set t.entries p e) p s (omega arith) put (All-set (EntryCounts k) t.entries p e item items) trials
        (ap (summary_of j k) (get_or-set_same t.entries p e None lt) ∙ is)
        (λ i ne. ap (summary_of j k) (get_or-set_other t.entries p i e None ne))

    -- one entry appended
    pub leaf_push : (e : Entry I) (s : S) → length t.entries < places_of before → Rejoined j (places_of before) before (with_leaf before (length t.entries) s) after
        → AllByRecursion (EntryCounts k) t.entries → EntryCounts k e → j.is_summary (kept_of j k t.tried) → summary_of j k e ≡ s
        → CellsOf j k (places_of before) given (trace (t.entries ++ (e ∷ [])) t.tried) after
    leaf_push e s lt put items item trials is =
        let es = t.entries in
        leaf_put (es ++ (e ∷ [])) (length es) s lt put (All-push (EntryCounts k) es e items item) trials
        (ap (summary_of j k) (get_or_push es e None (length es) refl) ∙ is)
        (λ i ne. ⊎_elim (λ (l : i < length es). ap (summary_of j k) (get_or_append_left es (e ∷ []) None i l))
        (λ (o : length es ≤ i).
        let long = length_push es e in
        let beyond : length es < i = omega (arith, ne) in
        ap (summary_of j k) (get_or_past (es ++ (e ∷ [])) i None (omega arith) ∙ sym (get_or_past es i None o))) (cases_lt i (length es)))

    -- leaves written one behind another, or emptied
    leaves_put : (es : List (Entry I)) (first : ℕ) (leaves : List S) → first + length leaves ≤ places_of before → Rejoined j (places_of before) before (with_leaves before first leaves) after
        → AllByRecursion (EntryCounts k) es → j.is_summary (kept_of j k t.tried)
        → ((i : ℕ) → i < first → leaf_of j k es i ≡ leaf_of j k t.entries i)
        → ((i : ℕ) → i < length leaves → leaf_of j k es (first + i) ≡ get_or leaves i j.empty)
        → ((i : ℕ) → first + length leaves ≤ i → leaf_of j k es i ≡ leaf_of j k t.entries i)
        → CellsOf j k (places_of before) given (trace es t.tried) after
    leaves_put es first leaves room put items trials front inside back =
        let n = places_of before in
        let held = (capacity_room (length before)).held in
        let none = j.empty in
        let size = length leaves in
        let within : n + first + size ≤ length before = omega arith in
        let enough : size ≤ length leaves = omega arith in
        rejoined (trace es t.tried) was put items trials
        (λ h. paste_before before (n + first) leaves size none within enough 0 (omega arith) ∙ was.kept h)
        (λ i h.
        ⊎_elim (λ (l : i < first). paste_before before (n + first) leaves size none within enough (n + i) (omega arith) ∙ (was.leaves i h ∙ sym (front i l)))
        (λ (o : first ≤ i).
        ⊎_elim (λ (l : i < first + size).
        let at : n + i - (n + first) ≡ i - first = omega arith in
        let back_at : first + (i - first) ≡ i = omega arith in
        paste_inside before (n + first) leaves size none within enough (n + i) (omega arith) (omega arith)
        ∙ (ap (λ x. get_or leaves x none) at ∙ (sym (inside (i - first) (omega arith)) ∙ ap (leaf_of j k es) back_at)))
        (λ (b : first + size ≤ i). paste_behind before (n + first) leaves size none within enough (n + i) (omega arith) ∙ (was.leaves i h ∙ sym (back i b))) (cases_lt i (first + size))) (cases_lt i first))
        (λ i h. elim h [
          | inl a ↦ paste_before before (n + first) leaves size none within enough i (omega (arith, a.0, a.1))
          | inr b ↦ paste_behind before (n + first) leaves size none within enough i (omega arith)
        ])

    -- items appended
    pub leaves_push : (is : List I) (leaves : List S) → leaves ≡ map k.of_item is → length t.entries + length is ≤ places_of before
        → Rejoined j (places_of before) before (with_leaves before (length t.entries) leaves) after
        → AllByRecursion (EntryCounts k) t.entries → AllByRecursion k.is_item is → j.is_summary (kept_of j k t.tried)
        → CellsOf j k (places_of before) given (trace (t.entries ++ map Some is) t.tried) after
    leaves_push is leaves are room put items new trials =
        let es = t.entries in
        let none = j.empty in
        let size : length leaves ≡ length is = ap length are ∙ length-map is k.of_item in
        let more : length (map Some is) ≡ length is = length-map is Some in
        let all : length (es ++ map Some is) ≡ length es + length is = length-append es (map Some is) ∙ ap (λ x. length es + x) more in
        leaves_put (es ++ map Some is) (length es) leaves (omega arith) put
        (All-append (EntryCounts k) es (map Some is) items (All-map (EntryCounts k) Some is new)) trials
        (λ i l. ap (summary_of j k) (get_or_append_left es (map Some is) None i l))
        (λ i l.
        let at : length es + i - length es ≡ i = omega arith in
        let there : i < length is = omega arith in
        ap (summary_of j k) (get_or-append_right es (map Some is) (length es) (length es + i) None refl (omega arith) ∙ ap (λ x. get_or (map Some is) x None) at)
        ∙ read_item is i there ∙ ap (λ l. get_or l i none) (sym are))
        (λ i b. ap (summary_of j k) (get_or_past (es ++ map Some is) i None (omega arith) ∙ sym (get_or_past es i None (omega arith))))
      where
        read_item : (is : List I) (i : ℕ) → i < length is → summary_of j k (get_or (map Some is) i None) ≡ get_or (map k.of_item is) i j.empty
        read_item [] i lt = absurd (omega arith)
        read_item (x ∷ xs) i lt =
            ap (summary_of j k) (get_or-map Some (x ∷ xs) i x None lt) ∙ sym (get_or-map k.of_item (x ∷ xs) i x j.empty lt)

    -- the last entries cut off
    pub leaves_cut : (n : ℕ) → n ≤ length t.entries → length t.entries ≤ places_of before
        → Rejoined j (places_of before) before (without_leaves j before n (length t.entries)) after
        → AllByRecursion (EntryCounts k) t.entries → j.is_summary (kept_of j k t.tried)
        → CellsOf j k (places_of before) given (trace (take n t.entries) t.tried) after
    leaves_cut n le within put items trials =
        let es = t.entries in
        let none = j.empty in
        let gone = length es - n in
        let size : length (replicate gone none) ≡ gone = length-replicate gone none in
        let long = length-take-le n es le in
        let past : (i : ℕ) → n ≤ i → leaf_of j k (take n es) i ≡ none = λ i o. ap (summary_of j k) (get_or_past (take n es) i None (omega arith)) in
        leaves_put (take n es) n (replicate gone none) (omega arith) put (All-take (EntryCounts k) n es items) trials
        (λ i l. ap (summary_of j k) (get_or-take n es i None l))
        (λ i l. past (n + i) (omega arith) ∙ sym (get_or-replicate gone i none none (omega arith)))
        (λ i b. past i (omega arith) ∙ sym (ap (summary_of j k) (get_or_past es i None (omega arith))))

    -- another entry tried
    pub leaf_tried : (e : Entry I) (p : ℕ) (s : S) → p < length t.entries → length t.entries ≤ places_of before → Rejoined j (places_of before) before (with_trial j before p s) after
        → AllByRecursion (EntryCounts k) t.entries → EntryCounts k e → summary_of j k e ≡ s
        → CellsOf j k (places_of before) given (trace (set t.entries p e) (Some (record { place = p; old = get_or t.entries p None }))) after
    leaf_tried e p s lt within put items item is =
        let n = places_of before in
        let held = (capacity_room (length before)).held in
        let none = j.empty in
        let old = cell j before (n + p) in
        let mid = set before 0 old in
        let size = length-set before 0 old in
        let es = t.entries in
        rejoined (trace (set es p e) (Some (record { place = p; old = get_or es p None }))) was put (All-set (EntryCounts k) es p e item items)
        (leaf_counts es p items)
        (λ h. get_or-set_other mid (n + p) 0 s none (λ e. omega arith) ∙ (get_or-set_same before 0 old none (omega arith) ∙ was.leaves p (omega arith)))
        (λ i h.
        ⊎_elim (λ (q : i ≡ p). subst (λ x. cell j (set mid (n + p) s) (n + x) ≡ leaf_of j k (set es p e) x) (sym q)
        (get_or-set_same mid (n + p) s none (omega arith) ∙ sym (ap (summary_of j k) (get_or-set_same es p e None lt) ∙ is)))
        (λ (ne : i ≢ p). get_or-set_other mid (n + p) (n + i) s none (λ q. ne (omega arith)) ∙ (get_or-set_other before 0 (n + i) old none (λ q. omega arith)
        ∙ (was.leaves i h ∙ sym (ap (summary_of j k) (get_or-set_other es p i e None ne))))) (cases_eq i p))
        (λ i h. get_or-set_other mid (n + p) i s none (λ q. elim h [ inl a ↦ omega (arith, a.0, a.1) | inr b ↦ omega arith ])
        ∙ get_or-set_other before 0 i old none (λ q. elim h [ inl a ↦ omega (arith, a.0, a.1) | inr b ↦ omega arith ]))

    -- the old entry taken back
    pub leaf_restored : (old : Entry I) (p : ℕ) → p < length t.entries → length t.entries ≤ places_of before → t.tried ≡ Some (record { place = p; old = old })
        → Rejoined j (places_of before) before (with_old j before p) after
        → AllByRecursion (EntryCounts k) t.entries → EntryCounts k old
        → CellsOf j k (places_of before) given (trace (set t.entries p old) None) after
    leaf_restored old p lt within tried put items counts =
        let n = places_of before in
        let held = (capacity_room (length before)).held in
        let none = j.empty in
        let s = cell j before 0 in
        let mid = set before (n + p) s in
        let size = length-set before (n + p) s in
        let es = t.entries in
        let is : s ≡ summary_of j k old = was.kept (omega arith) ∙ ap (kept_of j k) tried in
        rejoined (trace (set es p old) None) was put (All-set (EntryCounts k) es p old counts items) laws.empty_counts
        (λ h. get_or-set_same mid 0 none none (omega arith))
        (λ i h. get_or-set_other mid 0 (n + i) none none (λ q. omega arith) ∙
        ⊎_elim (λ (q : i ≡ p). subst (λ x. cell j mid (n + x) ≡ leaf_of j k (set es p old) x) (sym q)
        (get_or-set_same before (n + p) s none (omega arith) ∙ (is ∙ sym (ap (summary_of j k) (get_or-set_same es p old None lt)))))
        (λ (ne : i ≢ p). get_or-set_other before (n + p) (n + i) s none (λ q. ne (omega arith)) ∙ (was.leaves i h ∙ sym (ap (summary_of j k) (get_or-set_other es p i old None ne)))) (cases_eq i p))
        (λ i h. get_or-set_other mid 0 i none none (λ q. elim h [ inl a ↦ omega (arith, a.0, a.1) | inr b ↦ omega arith ])
        ∙ get_or-set_other before (n + p) i s none (λ q. elim h [ inl a ↦ omega (arith, a.0, a.1) | inr b ↦ omega arith ]))

    -- the kept summary let go
    pub leaf_kept : (es : List (Entry I)) → es ≡ t.entries → 0 < places_of before → after ≡ set before 0 j.empty → CellsOf j k (places_of before) given (trace es None) after
    leaf_kept es same pos is =
        let n = places_of before in
        let held = (capacity_room (length before)).held in
        let none = j.empty in
        let done : CellsOf j k n given (trace t.entries None) (set before 0 none) = record {
          size = length-set before 0 none ∙ was.size;
          kept = λ h. get_or-set_same before 0 none none (omega arith);
          leaves = λ i h. get_or-set_other before 0 (n + i) none none (λ e. omega arith) ∙ was.leaves i h;
          tree = tree_first j before none (omega arith) laws.empty_counts was.tree;
          past = λ i h. get_or-set_other before 0 i none none (λ e. omega arith) ∙ was.past i h;
        } in
        subst (λ xs. CellsOf j k n given (trace xs None) after) (sym same) (subst (CellsOf j k n given (trace t.entries None)) (sym is) done)
