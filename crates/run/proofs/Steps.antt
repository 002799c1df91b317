-- How a run stands once a call has been granted, and what it answers.
use Rattle.std.proofs.Common.{◌≡◌, ℕ, ◌+◌, ◌-◌, ◌<◌, ◌≤◌, Bool, true, false, cond, ◌&&◌, leb, ◌⊎◌, List, map, length, get_or, drop, None, Ok, Err, Result, sym, refl, ap, ◌∙◌, subst, inl, inr, ⊎_elim, arith}
use Rattle.std.specs.List.{AllByRecursion}
use Rattle.std.proofs.lemmas.List.{ext_get_or, get_or-drop, get_or-map, get_or-take, length-drop, length-map, length-take-le}
use Rattle.std.proofs.lemmas.Bool.{and_from, cases_lt, cond-true, cond-false, le-leb, lt-leb}
use Rattle.station.specs.Laws.{Joins, Rules}
use Rattle.station.specs.Records.{Records}
use Rattle.station.specs.declared.refusals.Refusal.{Refusal}
use Rattle.station.specs.declared.refusals.Refusal.TheVariants.{NoSuchPosition}
use Rattle.traces.specs.Lists.{gathered}
use Rattle.traces.specs.Traces.{EntryCounts, summary_of, piece_summary}
use Rattle.traces.specs.Entries.{Entry}
use Rattle.tree.specs.Answers.{places_of, leaves_in, Stretches}
use Rattle.tree.proofs.Capacities.{capacity_room}
use Rattle.run.specs.Calls.{Refused, SummaryIs, answer_by}
use Rattle.run.specs.Rules.{Trace, Grant, trace, piece, provided, answer_of}
use Rattle.run.specs.Standing.{CellsOf, Stands, TrialCounts, place_of, terms_of}
use Rattle.run.specs.declared.run.Run.{Run}
use Rattle.run.proofs.CellSteps.{same_places}

-- a conjunction that fails
pub and_shut : (a b : Bool) → a ≡ false → (a && b) ≡ false
and_shut a b e = ap (λ x. x && b) e

pub and_shut_behind : (a b : Bool) → b ≡ false → (a && b) ≡ false
and_shut_behind true b e = e
and_shut_behind false b e = refl

pub and_failed_behind : (a b : Bool) → a ≡ true → (a && b) ≡ false → b ≡ false
and_failed_behind a b e h = ap (λ x. x && b) (sym e) ∙ h

pub and_held_behind : (a b : Bool) → a ≡ true → (a && b) ≡ true → b ≡ true
and_held_behind a b e h = ap (λ x. x && b) (sym e) ∙ h

-- a write that was refused
pub refused_by : (b : Bool) (r : Result (Unit {0}) Refusal) (e : Refusal) → r ≡ cond b (Ok tt) (Err NoSuchPosition) → r ≡ Err e → (r ≡ Err NoSuchPosition) × (b ≡ false)
refused_by true r e is h = let z : ◌≡◌ {A = ℕ} 0 1 = cc in absurd (omega arith)
refused_by false r e is h = (is, refl)

module _ {S I D : Type 0} {j : Joins S} {k : Rules S I D} {given : List S} {number : ℕ} {records : Records I} {t : Trace I} {run : Run S} (met : Stands j k given (terms_of given number records) t run) where
  -- the cells, by their own number of places
  pub cells_were : CellsOf j k (places_of run.cells.now) given t run.cells.now
  cells_were = subst (λ m. CellsOf j k m given t run.cells.now) (sym (same_places met.cells)) met.cells

  pub within_were : length t.entries ≤ places_of run.cells.now
  within_were = subst (λ m. length t.entries ≤ m) (sym (same_places met.cells)) met.within

  -- another trace for the same run
  pub stands_as : (u : Trace I) (end : Run S) → end.number ≡ run.number → end.trial ≡ place_of u.tried → end.length ≡ length u.entries
      → length u.entries ≤ places_of run.cells.now → AllByRecursion (EntryCounts k) u.entries → TrialCounts k (length u.entries) u.tried
      → CellsOf j k (places_of run.cells.now) given u end.cells.now → Stands j k given (terms_of given number records) u end
  stands_as u end num trial size within items trials cells =
      let same = same_places met.cells in
      record {
        numbered = num ∙ met.numbered;
        counted = size;
        trying = trial;
        cells = subst (λ m. CellsOf j k m given u end.cells.now) same cells;
        within = subst (λ m. length u.entries ≤ m) same within;
        items = items;
        trials = trials;
      }

  -- the same where no trial is open
  pub stands_edited : (es : List (Entry I)) (end : Run S) → t.tried ≡ None → end.number ≡ run.number → end.trial ≡ run.trial → end.length ≡ length es
      → length es ≤ places_of run.cells.now → AllByRecursion (EntryCounts k) es
      → CellsOf j k (places_of run.cells.now) given (trace es t.tried) end.cells.now → Stands j k given (terms_of given number records) (trace es t.tried) end
  stands_edited es end idle num trial size within items cells =
      stands_as (trace es t.tried) end num (trial ∙ met.trying) size within items (subst (TrialCounts k (length es)) (sym idle) tt) cells

  -- the leaves of a range are the summaries of its entries
  leaves_piece : (from to : ℕ) → from ≤ to → to ≤ length t.entries → leaves_in run.cells.now from to ≡ map (summary_of j k) (piece t.entries from to)
  leaves_piece from to order within =
      let cells = run.cells.now in
      let n = places_of cells in
      let es = t.entries in
      let held = (capacity_room (length cells)).held in
      let room = within_were in
      let size = to - from in
      let none = j.empty in
      let long : length (leaves_in cells from to) ≡ size = length-take-le size (drop (n + from) cells) (let l = length-drop (n + from) cells in omega arith) in
      let long_piece : length (piece es from to) ≡ size = length-take-le size (drop from es) (let l = length-drop from es in omega arith) in
      ext_get_or none (leaves_in cells from to) (map (summary_of j k) (piece es from to)) (long ∙ sym (length-map (piece es from to) (summary_of j k) ∙ long_piece))
      (λ i h.
      let lt : i < size = omega arith in
      let at : n + from + i ≡ n + (from + i) = omega arith in
      get_or-take size (drop (n + from) cells) i none lt
      ∙ (get_or-drop (n + from) cells i none
      ∙ (ap (λ x. get_or cells x none) at
      ∙ (cells_were.leaves (from + i) (omega arith)
      ∙ sym (get_or-map (summary_of j k) (piece es from to) i None none (omega arith)
      ∙ ap (summary_of j k) (get_or-take size (drop from es) i None lt ∙ get_or-drop from es i None))))))

  -- what a stretch answers
  pub stretch_is : (from to : ℕ) (r : Result S Refusal) → to ≤ length t.entries → Stretches j run.cells.now from to r
      → ((from ≤ to) × (r ≡ Ok (piece_summary j k (piece t.entries from to)))) ⊎ ((to < from) × (r ≡ Err NoSuchPosition))
  stretch_is from to r within s =
      let cells = run.cells.now in
      let n = places_of cells in
      let room = within_were in
      ⊎_elim
      (λ (bad : to < from). inr (bad, s.refused (cond-false _ _ _ (and_shut (leb from to) (leb to n) (lt-leb from to bad)))))
      (λ (order : from ≤ to).
      let found = s.granted (cond-true _ _ _ (and_from (leb from to) (leb to n) (le-leb from to order) (le-leb to n (omega arith)))) in
      inl (order, (found.1 ∙ ap Ok ((found.2 cells_were.tree).is ∙ ap (gathered j) (leaves_piece from to order within)))))
      (cases_lt to from)

-- the result behind the answer of a stretch
pub stretch_result : {S I D : Type 0} (b : Bool) (s : S) (t : Trace I) (r : Result S Refusal)
    → answer_by {D = D} SummaryIs r ≡ answer_of {I = I} (provided b (Refused NoSuchPosition) (Grant (SummaryIs s) t)) → ((b ≡ true) × (r ≡ Ok s)) ⊎ ((b ≡ false) × (r ≡ Err NoSuchPosition))
stretch_result true s t (Ok x) e = inl (refl, cc)
stretch_result true s t (Err w) e = let z : ◌≡◌ {A = ℕ} 0 1 = cc in absurd (omega arith)
stretch_result false s t (Ok x) e = let z : ◌≡◌ {A = ℕ} 0 1 = cc in absurd (omega arith)
stretch_result false s t (Err w) e = inr (refl, cc)
