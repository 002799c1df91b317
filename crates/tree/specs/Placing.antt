-- Which cells are the leaves of given places, in a tree over so many cells.
use Rattle.std.specs.Prelude.{◌≡◌, ℕ, ◌+◌, ◌*◌, ◌<◌, ◌≤◌}
use Rattle.std.specs.declared.ops.Range.{Range}
use Rattle.tree.specs.Capacity.{capacity}

-- The leaf of a place that the cells have.
pub record IsLeaf (cells place leaf : ℕ) : Type 0 where
  pub placed : place < capacity cells
  pub is : leaf ≡ capacity cells + place
  pub held : 2 * capacity cells ≤ cells

-- The leaves of a range of places that the cells have.
pub record AreLeaves (cells : ℕ) (places leaves : Range ℕ) : Type 0 where
  pub order : places.start ≤ places.end
  pub room : places.end ≤ capacity cells
  pub first : leaves.start ≡ capacity cells + places.start
  pub last : leaves.end ≡ capacity cells + places.end
  pub held : 2 * capacity cells ≤ cells
