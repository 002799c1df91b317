-- The join of a row of cells: taken from its front, its back, and from the level above.
use Rattle.std.proofs.Common.{◌≡◌, ℕ, zero, suc, ◌+◌, ◌-◌, ◌*◌, ◌/◌, ◌%◌, ◌<◌, ◌≤◌, List, [], ◌∷◌, ◌++◌, length, get_or, take, drop, sym, refl, ap, ◌∙◌, subst, arith}
use Rattle.std.specs.List.{AllByRecursion}
use Rattle.std.proofs.lemmas.List.{drop_more, take_more, get_or-drop, get_or_read, length-drop}
use Rattle.station.specs.Laws.{Joins, JoinLaws, Gives}
use Rattle.traces.specs.Lists.{gathered}
use Rattle.traces.proofs.Folds.{gathered_counts, gathered_append}
use Rattle.tree.specs.Cells.{cell, Tree}

-- the join of `count` cells from cell `k`
abbrev pub row : {S : Type 0} → Joins S → List S → ℕ → ℕ → S
row j cells k count = gathered j (take count (drop k cells))

-- two ends, and the cells between them, come to `all`
abbrev pub Ends : {S : Type 0} → Joins S → List S → ℕ → ℕ → S → S → S → Type 0
Ends j cells low high front back all = j.is_summary front × j.is_summary back × (j.joined front (j.joined (row j cells low (high - low)) back) ≡ all)

pub ends_moved : {S : Type 0} (j : Joins S) (cells : List S) (low low' high high' : ℕ) {front front' back back' all : S} → low ≡ low' → high ≡ high' → front ≡ front' → back ≡ back'
    → Ends j cells low high front back all → Ends j cells low' high' front' back' all
ends_moved j cells low low' high high' a b f k s = let e = s.2 in (subst j.is_summary f s.0, subst j.is_summary k s.1, cc)

module _ {S : Type 0} {j : Joins S} (laws : JoinLaws j) (n : ℕ) (cells : List S) (room : 2 * n ≤ length cells) (t : Tree j n cells) where
  front : (k count : ℕ) → k < 2 * n → take (suc count) (drop k cells) ≡ cell j cells k ∷ take count (drop (k + 1) cells)
  front k count h = ap (take (suc count)) (drop_more cells k j.empty (omega arith))

  all_count : (k count : ℕ) → k + count ≤ 2 * n → AllByRecursion j.is_summary (take count (drop k cells))
  all_count k zero h = tt
  all_count k (suc count) h = subst (AllByRecursion j.is_summary) (sym (front k count (omega arith))) (t.counts k (omega arith), all_count (k + 1) count (omega arith))

  row_counts : (k count : ℕ) → k + count ≤ 2 * n → j.is_summary (row j cells k count)
  row_counts k count h = gathered_counts laws _ (all_count k count h)

  -- the first one taken off, and the last
  row_front : (k count : ℕ) → k < 2 * n → row j cells k (suc count) ≡ j.joined (cell j cells k) (row j cells (k + 1) count)
  row_front k count h = ap (gathered j) (front k count h)

  row_back : (k count : ℕ) → k + count < 2 * n → row j cells k (count + 1) ≡ j.joined (row j cells k count) (cell j cells (k + count))
  row_back k count h =
      let last = cell j cells (k + count) in
      let counts = t.counts (k + count) h in
      let size = length-drop k cells in
      let split : take (count + 1) (drop k cells) ≡ take count (drop k cells) ++ (last ∷ []) =
      take_more (drop k cells) count j.empty (omega arith) ∙ ap (λ x. take count (drop k cells) ++ (x ∷ [])) (get_or-drop k cells count j.empty) in
      ap (gathered j) split ∙ gathered_append laws _ (last ∷ []) (all_count k count (omega arith)) (counts, tt)
      ∙ ap (j.joined (row j cells k count)) (laws.empty_right last counts)

  -- a level and the one above it
  row_half : (k count : ℕ) → 1 ≤ k → k + count ≤ n → row j cells (2 * k) (2 * count) ≡ row j cells k count
  row_half k zero low h = refl
  row_half k (suc count) low h =
      let twice : 2 * suc count ≡ suc (suc (2 * count)) = omega arith in
      let at : 2 * k + 1 + 1 ≡ 2 * (k + 1) = omega arith in
      let left = cell j cells (2 * k) in
      let right = cell j cells (2 * k + 1) in
      let rest : row j cells (2 * k + 1 + 1) (2 * count) ≡ row j cells (k + 1) count = ap (λ m. row j cells m (2 * count)) at ∙ row_half (k + 1) count (omega arith) (omega arith) in
      ap (row j cells (2 * k)) twice
      ∙ row_front (2 * k) (suc (2 * count)) (omega arith)
      ∙ ap (j.joined left) (row_front (2 * k + 1) (2 * count) (omega arith) ∙ ap (j.joined right) rest)
      ∙ sym (laws.associative left right _ (t.counts (2 * k) (omega arith)) (t.counts (2 * k + 1) (omega arith)) (row_counts (k + 1) count (omega arith)))
      ∙ ap (λ x. j.joined x (row j cells (k + 1) count)) (sym (t.inner k low (omega arith)))
      ∙ sym (row_front k count (omega arith))

  pub ends_none : (low high : ℕ) (front back : S) → low ≤ high → high ≤ 2 * n → Gives j.is_summary j.empty front → Gives j.is_summary j.empty back
      → Ends j cells low high front back (row j cells low (high - low))
  ends_none low high front back le h f b =
      let e = laws.empty_counts in
      let m = row_counts low (high - low) (omega arith) in
      ends_moved j cells low low high high refl refl (sym f.is) (sym b.is) (e, e, laws.empty_left _ (laws.joined_counts _ _ m e) ∙ laws.empty_right _ m)

  -- a cell joined to the front, and to the back, from what the call of the join promised
  pub ends_front : (low high : ℕ) (front back all x next : S) → low < high → high ≤ 2 * n → x ≡ get_or cells low x
      → (j.is_summary front → j.is_summary x → Gives j.is_summary (j.joined front x) next) → Ends j cells low high front back all → Ends j cells (low + 1) high next back all
  ends_front low high front back all x next lt h read joins s =
      let here = t.counts low (omega arith) in
      let rest = row_counts (low + 1) (high - (low + 1)) (omega arith) in
      let one : high - low ≡ suc (high - (low + 1)) = omega arith in
      let split = ap (row j cells low) one ∙ row_front low (high - (low + 1)) (omega arith) in
      let x-is = get_or_read cells low x (omega arith) read j.empty in
      let made = joins s.0 (subst j.is_summary (sym x-is) here) in (
        made.counts,
        s.1,
        ap (λ v. j.joined v (j.joined (row j cells (low + 1) (high - (low + 1))) back)) (made.is ∙ ap (j.joined front) x-is)
            ∙ laws.associative _ _ _ s.0 here (laws.joined_counts _ _ rest s.1)
            ∙ ap (j.joined front) (sym (laws.associative _ _ _ here rest s.1) ∙ ap (λ v. j.joined v back) (sym split)) ∙ s.2,
      )

  pub ends_back : (low high : ℕ) (front back all x next : S) → low < high → high ≤ 2 * n → x ≡ get_or cells (high - 1) x
      → (j.is_summary x → j.is_summary back → Gives j.is_summary (j.joined x back) next) → Ends j cells low high front back all → Ends j cells low (high - 1) front next all
  ends_back low high front back all x next lt h read joins s =
      let here = t.counts (high - 1) (omega arith) in
      let rest = row_counts low (high - 1 - low) (omega arith) in
      let one : high - low ≡ high - 1 - low + 1 = omega arith in
      let last : low + (high - 1 - low) ≡ high - 1 = omega arith in
      let split = ap (row j cells low) one ∙ row_back low (high - 1 - low) (omega arith) ∙ ap (λ m. j.joined (row j cells low (high - 1 - low)) (cell j cells m)) last in
      let x-is = get_or_read cells (high - 1) x (omega arith) read j.empty in
      let made = joins (subst j.is_summary (sym x-is) here) s.1 in (
        s.0,
        made.counts,
        ap (λ v. j.joined front (j.joined (row j cells low (high - 1 - low)) v)) (made.is ∙ ap (λ v. j.joined v back) x-is)
            ∙ ap (j.joined front) (sym (laws.associative _ _ _ rest here s.1) ∙ ap (λ v. j.joined v back) (sym split)) ∙ s.2,
      )

  pub ends_half : (low high : ℕ) (front back all : S) → low % 2 ≡ 0 → high % 2 ≡ 0 → 0 < low → low ≤ high → high ≤ 2 * n → Ends j cells low high front back all → Ends j cells (low / 2) (high / 2) front back all
  ends_half low high front back all el eh pos le h s =
      let a : low ≡ 2 * (low / 2) = omega arith in
      let b : high - low ≡ 2 * (high / 2 - low / 2) = omega arith in
      let same : row j cells low (high - low) ≡ row j cells (low / 2) (high / 2 - low / 2) =
      ap (λ x. row j cells x (high - low)) a ∙ ap (row j cells (2 * (low / 2))) b ∙ row_half (low / 2) (high / 2 - low / 2) (omega arith) (omega arith) in
      (s.0, s.1, ap (λ x. j.joined front (j.joined x back)) (sym same) ∙ s.2)

  -- no cells between the ends
  pub ends_all : (low high : ℕ) (front back all r : S) → high ≤ low → (j.is_summary front → j.is_summary back → Gives j.is_summary (j.joined front back) r)
      → Ends j cells low high front back all → Gives j.is_summary all r
  ends_all low high front back all r le joins s =
      let done : high - low ≡ 0 = omega arith in
      let made = joins s.0 s.1 in
      record {
        is = made.is ∙ ap (j.joined front) (sym (ap (λ c. j.joined (row j cells low c) back) done ∙ laws.empty_left back s.1)) ∙ s.2;
        counts = made.counts;
      }
