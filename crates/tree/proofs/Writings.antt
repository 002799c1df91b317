-- Leaves written and the cells above them joined anew make what was wanted, and a tree of it.
use Rattle.std.proofs.Common.{◌≡◌, ℕ, ◌+◌, ◌*◌, ◌/◌, ◌<◌, ◌≤◌, cond, ltb, List, length, set, Ok, Err, Result, sym, refl, ap, ◌∙◌, subst, inl, inr, ⊎_elim, arith}
use Rattle.std.proofs.lemmas.List.{length-set, get_or-set_other}
use Rattle.std.proofs.lemmas.Bool.{cases_lt}
use Rattle.std.proofs.lemmas.Bool.Decides.{nat_tests}
use Rattle.station.specs.Laws.{Joins}
use Rattle.station.specs.declared.refusals.Refusal.{Refusal}
use Rattle.station.specs.declared.refusals.Refusal.TheVariants.{NoSuchPosition}
use Rattle.tree.specs.Answers.{AlikeOutside, JoinedAbove, places_of, placed, ranged, Writes, with_leaf}
use Rattle.tree.specs.Capacity.{capacity}
use Rattle.tree.specs.Cells.{cell, AllCount, Tree, Rejoined}
use Rattle.tree.specs.Levels.{Above, TreeBut}
use Rattle.tree.proofs.Levels.{Climbed}
use Rattle.tree.proofs.Capacities.{capacity_room}
use Rattle.tree.proofs.Trees.{joined_same, tree_top, tree_first}

module _ {S : Type 0} (j : Joins S) where
  -- what is written at leaves spoils only the cells above
  spoilt_above : (n low high : ℕ) (before wanted : List S) → n ≤ low → AlikeOutside j low high before wanted
      → Tree j n before → AllCount j n wanted → TreeBut j n (Above low high) wanted
  spoilt_above n low high before wanted leaves alike t all = record {
    counts = all;
    inner = λ k pos lt ok. joined_same j before wanted k (alike.same k (inl (omega arith)))
        (alike.same (2 * k) (grind arith)) (alike.same (2 * k + 1) (grind arith)) (t.inner k pos lt);
  }

  -- levels climbed up to the root
  pub joined_above : (low high from to : ℕ) (wanted after : List S) → places_of wanted ≤ low → from ≤ 1 → to ≤ 2
      → Climbed j (places_of wanted) (Above low high) (Above from to) wanted after → JoinedAbove j low high wanted after
  joined_above low high from to wanted after leaves root top c before alike = record {
    long = c.long ∙ alike.long;
    others = c.others;
    tree = λ t all. tree_top j (from / 2) ((to + 1) / 2) (omega arith) (c.tree (spoilt_above (places_of wanted) low high before wanted leaves alike t all));
  }

  -- nothing lies above no leaves
  pub above_none : (low high : ℕ) (wanted : List S) → high ≤ low → JoinedAbove j low high wanted wanted
  above_none low high wanted none before alike =
      let same : (k : ℕ) → cell j wanted k ≡ cell j before k = λ k. alike.same k (⊎_elim (λ (l : k < low). inl l) (λ (o : low ≤ k). inr (omega arith)) (cases_lt k low)) in
      record {
        long = alike.long;
        others = λ k h. refl;
        tree = λ t all. record { counts = all; inner = λ k pos lt. joined_same j before wanted k (same k) (same (2 * k)) (same (2 * k + 1)) (t.inner k pos lt) };
      }

  granted_writes : (fit : Result (Unit {0}) Refusal) (before wanted after : List S) → fit ≡ Ok tt → Rejoined j (places_of before) before wanted after → Writes j fit before wanted after (Ok tt)
  granted_writes fit before wanted after fits done = record {
    is = sym fits;
    refused = λ no. let z : ◌≡◌ {A = ℕ} 0 1 = cc in absurd (omega arith);
    granted = λ h. done;
  }

  pub above_written : (fit : Result (Unit {0}) Refusal) (low high : ℕ) (before wanted after : List S) → fit ≡ Ok tt
      → AlikeOutside j low high before wanted → JoinedAbove j low high wanted after → Writes j fit before wanted after (Ok tt)
  above_written fit low high before wanted after fits alike above =
      granted_writes fit before wanted after fits (subst (λ m. Rejoined j (capacity m) before wanted after) alike.long (above before alike))

  pub in_place : (cells : List S) (place : ℕ) → place < places_of cells → placed cells place ≡ Ok tt
  in_place cells place lt = grind (arith, nat_tests)

  pub in_range : (cells : List S) (first to : ℕ) → first ≤ to → to ≤ places_of cells → ranged cells first to ≡ Ok tt
  in_range cells first to order room = grind (arith, nat_tests)

  -- cells alike but for one
  pub set_alike : (cells : List S) (at : ℕ) (x : S) → AlikeOutside j at (at + 1) cells (set cells at x)
  set_alike cells at x = record {
    long = length-set cells at x;
    same = λ k out. get_or-set_other cells at k x j.empty (grind arith);
  }

  -- a leaf written over cells whose cell 0 was written before
  pub first_written : (place : ℕ) (cells : List S) (x leaf : S) (wanted after : List S) (r : Result (Unit {0}) Refusal) → place < places_of cells
      → (Tree j (places_of cells) cells → j.is_summary x) → set (set cells 0 x) (places_of cells + place) leaf ≡ wanted
      → Writes j (placed (set cells 0 x) place) (set cells 0 x) (with_leaf (set cells 0 x) place leaf) after r → Writes j (placed cells place) cells wanted after r
  first_written place cells x leaf wanted after r lt counts same w =
      let held = (capacity_room (length cells)).held in
      let long = length-set cells 0 x in
      let inside = in_place cells place lt in
      let fit : r ≡ placed cells place = w.is ∙ ap (λ l. cond (ltb place (capacity l)) (Ok tt) (Err NoSuchPosition)) long in
      let done : Rejoined j (places_of cells) (set cells 0 x) wanted after =
      subst (λ ws. Rejoined j (places_of cells) (set cells 0 x) ws after) same
      (subst (λ l. Rejoined j (capacity l) (set cells 0 x) (set (set cells 0 x) (capacity l + place) leaf) after) long (w.granted (fit ∙ inside))) in
      subst (Writes j (placed cells place) cells wanted after) (sym (fit ∙ inside))
      (granted_writes (placed cells place) cells wanted after inside (record {
        long = done.long ∙ long;
        others = done.others;
        tree = λ t all. done.tree (tree_first j cells x (omega arith) (counts t) t) all;
      }))
