-- Trees after writes: a cell joined from the two below it is right, and only the one above it can be wrong then.
use Rattle.std.proofs.Common.{◌≡◌, ℕ, ◌+◌, ◌*◌, ◌/◌, ◌<◌, ◌≤◌, ◌≢◌, List, length, set, sym, subst, ⊎_elim, arith}
use Rattle.std.proofs.lemmas.List.{get_or-set_same, get_or-set_other}
use Rattle.std.proofs.lemmas.Bool.{cases_eq}
use Rattle.station.specs.Laws.{Joins, JoinLaws}
use Rattle.tree.specs.Cells.{cell, AllCount, Joined, Tree}
use Rattle.tree.specs.Levels.{TreeBut, Within}

module _ {S : Type 0} (j : Joins S) where
  -- a cell that is as before, with the two below it
  pub joined_same : (before after : List S) (k : ℕ) → cell j after k ≡ cell j before k
      → cell j after (2 * k) ≡ cell j before (2 * k) → cell j after (2 * k + 1) ≡ cell j before (2 * k + 1)
      → Joined j before k → Joined j after k
  joined_same before after k here left right e = cc

  pub counts_set : (n : ℕ) (cells : List S) (p : ℕ) (v : S) → p < length cells → AllCount j n cells → j.is_summary v → AllCount j n (set cells p v)
  counts_set n cells p v lt all fv k h =
      ⊎_elim (λ (e : k ≡ p). rw (e, get_or-set_same cells p v j.empty lt) fv) (λ (ne : k ≢ p). rw (get_or-set_other cells p k v j.empty ne) (all k h)) (cases_eq k p)

  -- more cells may be wrong
  pub but_weaker : {n : ℕ} {cells : List S} (wrong left : ℕ → Type 0) → ((k : ℕ) → wrong k → left k) → TreeBut j n wrong cells → TreeBut j n left cells
  but_weaker wrong left more t = record { counts = t.counts; inner = λ k pos lt ok. t.inner k pos lt (λ w. ok (more k w)) }

  pub tree_top : {n : ℕ} {cells : List S} (low high : ℕ) → high ≤ 1 → TreeBut j n (Within low high) cells → Tree j n cells
  tree_top low high top t = record { counts = t.counts; inner = λ k pos lt. t.inner k pos lt (λ w. omega arith) }

  -- cell 0 is no part of the tree
  pub tree_first : {n : ℕ} (cells : List S) (v : S) → 0 < length cells → j.is_summary v → Tree j n cells → Tree j n (set cells 0 v)
  tree_first {n} cells v pos fv t = record {
    counts = counts_set n cells 0 v pos t.counts fv;
    inner = λ k low high. grind (arith, t.inner k low high, get_or-set_other);
  }

module _ {S : Type 0} {j : Joins S} (laws : JoinLaws j) where
  pub cell_joined : (n : ℕ) (wrong left : ℕ → Type 0) (cells : List S) (k : ℕ) (v : S) → k < n → 2 * n ≤ length cells
      → v ≡ j.joined (cell j cells (2 * k)) (cell j cells (2 * k + 1))
      → ((m : ℕ) → m ≢ k → (left m → ⊥) → (wrong m → ⊥) × (k / 2 ≢ m))
      → TreeBut j n wrong cells → TreeBut j n left (set cells k v)
  cell_joined n wrong left cells k v lt long is right t =
      let after = set cells k v in
      let other : (m : ℕ) → m ≢ k → cell j after m ≡ cell j cells m = λ m ne. get_or-set_other cells k m v j.empty ne in
      record {
        counts = counts_set j n cells k v (omega arith) t.counts
            (subst j.is_summary (sym is) (laws.joined_counts _ _ (t.counts (2 * k) (omega arith)) (t.counts (2 * k + 1) (omega arith))));
        inner = λ m low high ok.
            ⊎_elim
            (λ (e : m ≡ k).
            let e0 = get_or-set_same cells k v j.empty (omega arith) in
            let e1 = other (2 * k) (λ x. omega arith) in
            let e2 = other (2 * k + 1) (λ x. omega arith) in
            cc)
            (λ (ne : m ≢ k).
            let up = (right m ne ok).1 in
            joined_same j cells after m (other m ne) (other (2 * m) (λ e. up (omega arith))) (other (2 * m + 1) (λ e. up (omega arith)))
            (t.inner m low high (right m ne ok).0)) (cases_eq m k);
      }
