-- How many places a tree over so many cells has.
use Rattle.std.specs.Prelude.{◌≡◌, ℕ, zero, suc, ◌*◌, ◌^◌, ◌<◌, ◌≤◌, cond, nat_le}

-- The largest power of two that is at most `most` and of which the cells hold twice as many; 0 below two cells.
pub record CapacityUpTo (most cells n : ℕ) : Type 0 where
  pub none : cells < 2 → n ≡ 0
  pub power : 2 ≤ cells → (k : ℕ) × (n ≡ 2 ^ k)
  pub held : 2 * n ≤ cells
  pub small : n ≤ most
  pub largest : 2 ≤ cells → (k : ℕ) → 2 * 2 ^ k ≤ cells → 2 ^ k ≤ most → 2 ^ k ≤ n

abbrev pub IsCapacity : ℕ → ℕ → Type 0
IsCapacity cells n = CapacityUpTo 4096 cells n

-- that number: the powers are tried from 2 ^ k down
unfoldable pub capacity_from : ℕ → ℕ → ℕ
capacity_from zero cells = cond (nat_le 2 cells) 1 0
capacity_from (suc k) cells = cond (nat_le (2 * 2 ^ suc k) cells) (2 ^ suc k) (capacity_from k cells)

unfoldable pub capacity : ℕ → ℕ
capacity cells = capacity_from 12 cells
