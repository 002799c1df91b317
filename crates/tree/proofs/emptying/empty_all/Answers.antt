use Rattle.std.proofs.Common.{rules, ◌≡◌, List, [], ◌∷◌, length, replicate, refl, subst, ap, ◌∙◌}
use Rattle.std.specs.List.{FoldsTo}
use Rattle.tree.proofs.emptying.empty_all.Goals as goal

-- calls that each give the same and leave what is called
module _ {F S : Type 0} (R : F → S → F → Type 0) (f : F) (v : S) where
  all_same : (xs : List S) (last : F) → FoldsTo R f xs last → ((x : S) (q : F) → R f x q → (x ≡ v) × (q ≡ f)) → xs ≡ replicate (length xs) v
  all_same [] last e each = refl
  all_same (x ∷ xs) last (q, here, rest) each =
      let one = each x q here in
      ap (λ y. y ∷ xs) one.0 ∙ ap (λ ys. v ∷ ys) (all_same xs last (subst (λ p. FoldsTo R p xs last) one.1 rest) each)

pub returns : goal.returns
returns g c =
    let empty = g.S.Summary.joins.empty in
    let cells = c.fill_with.new.self in
    let ran = c.fill_with.ensures.ran in
    let same : cells ≡ replicate (length cells) empty = all_same _ _ empty cells ran.0 ran.1 (λ x q h. search (rules, c.empty-empty.ensures.is)) in
    cc
