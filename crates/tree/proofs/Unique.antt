-- The leaves tell the tree: two trees with the same leaves have the same inner cells.
use Rattle.std.proofs.Common.{◌≡◌, ℕ, zero, suc, ◌+◌, ◌*◌, ◌<◌, ◌≤◌, List, ⊎_elim, arith}
use Rattle.std.proofs.lemmas.Bool.{cases_lt}
use Rattle.station.specs.Laws.{Joins}
use Rattle.tree.specs.Cells.{cell, Tree}

module _ {S : Type 0} {j : Joins S} {n : ℕ} (a b : List S) (ta : Tree j n a) (tb : Tree j n b) (leaves : (k : ℕ) → n ≤ k → cell j a k ≡ cell j b k) where
  -- from the leaves up
  up : (m k : ℕ) → 1 ≤ k → n ≤ k + m → cell j a k ≡ cell j b k
  up zero k pos h = leaves k (omega arith)
  up (suc m) k pos h =
      ⊎_elim
      (λ (l : k < n).
      let left = up m (2 * k) (omega arith) (omega arith) in
      let right = up m (2 * k + 1) (omega arith) (omega arith) in
      let here = ta.inner k pos l in
      let there = tb.inner k pos l in
      cc)
      (λ (o : n ≤ k). leaves k o) (cases_lt k n)

  pub same_cells : (k : ℕ) → 1 ≤ k → cell j a k ≡ cell j b k
  same_cells k pos = up n k pos (omega arith)
