-- What joining cells anew leaves, level by level: which inner cells may still be wrong.
use Rattle.std.specs.Prelude.{◌≡◌, ℕ, ◌+◌, ◌*◌, ◌/◌, ◌<◌, ◌≤◌, List, length}
use Rattle.station.specs.Laws.{Joins}
use Rattle.tree.specs.Cells.{cell, AllCount, Joined}

-- a tree, but for inner cells that may be wrong
pub record TreeBut {S : Type 0} (j : Joins S) (n : ℕ) (wrong : ℕ → Type 0) (cells : List S) : Type 0 where
  pub counts : AllCount j n cells
  pub inner : (k : ℕ) → 1 ≤ k → k < n → (wrong k → ⊥) → Joined j cells k

-- the cells from `low` up to `high`
abbrev pub Within : ℕ → ℕ → ℕ → Type 0
Within low high k = (low ≤ k) × (k < high)

-- the cells above these
abbrev pub Above : ℕ → ℕ → ℕ → Type 0
Above low high = Within (low / 2) ((high + 1) / 2)

-- Cells from `low` up to `high` joined anew, with those `left` that may be wrong.
pub record LevelJoined {S : Type 0} (j : Joins S) (low high : ℕ) (left : ℕ → Type 0) (before after : List S) : Type 0 where
  pub long : length after ≡ length before
  pub others : (k : ℕ) → (Within low high k → ⊥) → cell j after k ≡ cell j before k
  pub tree : (n : ℕ) → high ≤ n → 2 * n ≤ length before → TreeBut j n (Within low high) before → TreeBut j n left after
