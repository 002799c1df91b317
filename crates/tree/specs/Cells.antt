-- Cells as a tree of joins: with n places, cell n + i is the leaf of place i, and cell k below n joins the two below it.
use Rattle.std.specs.Prelude.{◌≡◌, ℕ, ◌+◌, ◌*◌, ◌<◌, ◌≤◌, ◌⊎◌, List, length, slice_index_or}
use Rattle.station.specs.Laws.{Joins}

-- what a cell holds
abbrev pub cell : {S : Type 0} → Joins S → List S → ℕ → S
cell j cells k = slice_index_or cells k j.empty

-- the cells below 2n are summaries
abbrev pub AllCount : {S : Type 0} → Joins S → ℕ → List S → Type 0
AllCount j n cells = (k : ℕ) → k < 2 * n → j.is_summary (cell j cells k)

-- cell k is the join of the two below it
abbrev pub Joined : {S : Type 0} → Joins S → List S → ℕ → Type 0
Joined j cells k = cell j cells k ≡ j.joined (cell j cells (2 * k)) (cell j cells (2 * k + 1))

-- the cells below 2n are summaries, and each inner one joins the two below it
pub record Tree {S : Type 0} (j : Joins S) (n : ℕ) (cells : List S) : Type 0 where
  pub counts : AllCount j n cells
  pub inner : (k : ℕ) → 1 ≤ k → k < n → Joined j cells k

-- Cells in which something was written: but for the inner cells they are as wanted, and where the cells before were a
-- tree and what is wanted are summaries, they are a tree again.
pub record Rejoined {S : Type 0} (j : Joins S) (n : ℕ) (before wanted after : List S) : Type 0 where
  pub long : length after ≡ length before
  pub others : (k : ℕ) → (k ≡ 0) ⊎ (n ≤ k) → cell j after k ≡ cell j wanted k
  pub tree : Tree j n before → AllCount j n wanted → Tree j n after

-- the cells below 2n emptied
pub record Emptied {S : Type 0} (j : Joins S) (n : ℕ) (before after : List S) : Type 0 where
  pub long : length after ≡ length before
  pub empty : (k : ℕ) → k < 2 * n → cell j after k ≡ j.empty
  pub others : (k : ℕ) → 2 * n ≤ k → cell j after k ≡ cell j before k
