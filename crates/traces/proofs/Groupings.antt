-- Every bracketing of a list has the value of its gather, and there is one.
use Rattle.std.proofs.Common.{◌≡◌, List, [], ◌∷◌, sym, refl, ap, ◌∙◌, subst}
use Rattle.std.specs.List.{AllByRecursion}
use Rattle.station.specs.Laws.{Joins, JoinLaws, Gives}
use Rattle.traces.specs.Lists.{gathered, Bracketing, Gathers}
use Rattle.traces.specs.Lists.Bracketing.{nothing, single, both}
use Rattle.traces.proofs.Folds.{gathered_append}
use Rattle.traces.proofs.Fronts.{all_front, all_rest}

pub bracketing_value : {S : Type 0} {j : Joins S} (laws : JoinLaws j) {zs : List S} {v : S} → Bracketing j zs v → AllByRecursion j.is_summary zs → v ≡ gathered j zs
bracketing_value laws nothing all = refl
bracketing_value laws (single x) all = sym (laws.empty_right x all.0)
bracketing_value {j = j} laws (both a b us vs x y p q) all =
    let front = all_front j.is_summary (a ∷ us) (b ∷ vs) all in
    let rest = all_rest j.is_summary (a ∷ us) (b ∷ vs) all in
    ap (λ v. j.joined v y) (bracketing_value laws p front)
    ∙ ap (j.joined _) (bracketing_value laws q rest)
    ∙ sym (gathered_append laws (a ∷ us) (b ∷ vs) front rest)

pub bracketing_exists : {S : Type 0} {j : Joins S} (laws : JoinLaws j) (zs : List S) → AllByRecursion j.is_summary zs → Bracketing j zs (gathered j zs)
bracketing_exists laws [] all = nothing
bracketing_exists {j = j} laws (x ∷ []) all = subst (Bracketing j (x ∷ [])) (sym (laws.empty_right x all.0)) (single x)
bracketing_exists laws (a ∷ (b ∷ us)) all = both a b [] us _ _ (single a) (bracketing_exists laws (b ∷ us) all.1)

pub gathers : {S : Type 0} {j : Joins S} (laws : JoinLaws j) (xs : List S) (r : S) → AllByRecursion j.is_summary xs → Gives j.is_summary (gathered j xs) r → Gathers j xs r
gathers {j = j} laws xs r all given = record {
  is = given.is;
  counts = given.counts;
  each = λ v b. bracketing_value laws b all ∙ sym given.is;
  some = subst (Bracketing j xs) (sym given.is) (bracketing_exists laws xs all);
}
