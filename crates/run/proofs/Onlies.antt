-- Two lists of cells that are those of one trace are equal.
use Rattle.std.proofs.Common.{◌≡◌, ℕ, ◌+◌, ◌-◌, ◌*◌, ◌<◌, ◌≤◌, List, sym, ap, ◌∙◌, subst, ⊎_elim, arith}
use Rattle.std.proofs.lemmas.List.{ext_get_or}
use Rattle.std.proofs.lemmas.Bool.{cases_lt}
use Rattle.station.specs.Laws.{Joins, Rules}
use Rattle.tree.specs.Cells.{cell}
use Rattle.tree.proofs.Unique.{same_cells}
use Rattle.run.specs.Rules.{Trace}
use Rattle.run.specs.Standing.{CellsOf}

module _ {S I D : Type 0} {j : Joins S} {k : Rules S I D} {n : ℕ} {given : List S} {t : Trace I} {a b : List S} (x : CellsOf j k n given t a) (y : CellsOf j k n given t b) where
  leaves_same : (i : ℕ) → n ≤ i → cell j a i ≡ cell j b i
  leaves_same i h =
      ⊎_elim
      (λ (l : i < 2 * n).
      let at : n + (i - n) ≡ i = omega arith in
      ap (cell j a) (sym at) ∙ (x.leaves (i - n) (omega arith) ∙ (sym (y.leaves (i - n) (omega arith)) ∙ ap (cell j b) at)))
      (λ (o : 2 * n ≤ i). x.past i o ∙ sym (y.past i o)) (cases_lt i (2 * n))

  first_same : (i : ℕ) → i ≤ 0 → cell j a i ≡ cell j b i
  first_same i z =
      let none : 0 ≡ i = omega arith in
      ⊎_elim (λ (pos : 0 < n). subst (λ m. cell j a m ≡ cell j b m) none (x.kept pos ∙ sym (y.kept pos))) (λ (o : n ≤ 0). leaves_same i (omega arith)) (cases_lt 0 n)

  pub one_list : a ≡ b
  one_list =
      ext_get_or j.empty a b (x.size ∙ sym y.size)
      (λ i h. ⊎_elim (λ (l : 0 < i). same_cells a b x.tree y.tree leaves_same i l) (λ (z : i ≤ 0). first_same i z) (cases_lt 0 i))
