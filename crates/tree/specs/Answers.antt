-- What the calls on cells answer and leave.
use Rattle.std.specs.Prelude.{◌≡◌, ℕ, ◌+◌, ◌-◌, ◌<◌, ◌≤◌, cond, ◌&&◌, ◌⊎◌, List, length, take, drop, replicate, Ok, Err, Result, nat_le, nat_lt, slice_set}
use Rattle.std.proofs.Math.Seq.{paste}
use Rattle.station.specs.Laws.{Joins, Gives}
use Rattle.station.specs.declared.refusals.Refusal.{Refusal}
use Rattle.station.specs.declared.refusals.Refusal.TheVariants.{NoSuchPosition}
use Rattle.traces.specs.Lists.{gathered}
use Rattle.tree.specs.Capacity.{capacity}
use Rattle.tree.specs.Cells.{cell, Tree, Rejoined}

-- the number of places of some cells
abbrev pub places_of : {S : Type 0} → List S → ℕ
places_of cells = capacity (length cells)

-- whether a place, or a range of places, is among those of the cells
abbrev pub placed : {S : Type 0} → List S → ℕ → Result (Unit {0}) Refusal
placed cells place = cond (nat_lt place (places_of cells)) (Ok tt) (Err NoSuchPosition)

abbrev pub ranged : {S : Type 0} → List S → ℕ → ℕ → Result (Unit {0}) Refusal
ranged cells from to = cond (nat_le from to && nat_le to (places_of cells)) (Ok tt) (Err NoSuchPosition)

-- A call that writes is granted or refused; refused, it leaves the cells, granted, they are as wanted.
pub record Writes {S : Type 0} (j : Joins S) (fit : Result (Unit {0}) Refusal) (before wanted after : List S) (r : Result (Unit {0}) Refusal) : Type 0 where
  pub is : r ≡ fit
  pub refused : r ≡ Err NoSuchPosition → after ≡ before
  pub granted : r ≡ Ok tt → Rejoined j (places_of before) before wanted after

-- Cells that have the same outside a range of them.
pub record AlikeOutside {S : Type 0} (j : Joins S) (low high : ℕ) (before wanted : List S) : Type 0 where
  pub long : length wanted ≡ length before
  pub same : (k : ℕ) → (k < low) ⊎ (high ≤ k) → cell j wanted k ≡ cell j before k

-- Cells in which a range of leaves was written are joined anew above them, over whatever they held before.
abbrev pub JoinedAbove : {S : Type 0} → Joins S → ℕ → ℕ → List S → List S → Type 0
JoinedAbove {S} j low high wanted after = (before : List S) → AlikeOutside j low high before wanted → Rejoined j (places_of wanted) before wanted after

-- A call that joins anew above a range of leaves is granted or refused; refused, it leaves the cells.
pub record Rejoins {S : Type 0} (j : Joins S) (from to : ℕ) (wanted after : List S) (r : Result (Unit {0}) Refusal) : Type 0 where
  pub is : r ≡ ranged wanted from to
  pub refused : r ≡ Err NoSuchPosition → after ≡ wanted
  pub granted : r ≡ Ok tt → JoinedAbove j (places_of wanted + from) (places_of wanted + to) wanted after

-- what is wanted: a leaf, leaves one behind another, empty leaves
abbrev pub with_leaf : {S : Type 0} → List S → ℕ → S → List S
with_leaf cells place leaf = slice_set cells (places_of cells + place) leaf

abbrev pub with_leaves : {S : Type 0} → List S → ℕ → List S → List S
with_leaves cells first leaves = paste cells (places_of cells + first) leaves (length leaves)

abbrev pub without_leaves : {S : Type 0} → Joins S → List S → ℕ → ℕ → List S
without_leaves j cells from to = with_leaves cells from (replicate (to - from) j.empty)

-- the old leaf kept in cell 0 and another in its place; and that taken back, with cell 0 empty
abbrev pub with_trial : {S : Type 0} → Joins S → List S → ℕ → S → List S
with_trial j cells place leaf = slice_set (slice_set cells 0 (cell j cells (places_of cells + place))) (places_of cells + place) leaf

abbrev pub with_old : {S : Type 0} → Joins S → List S → ℕ → List S
with_old j cells place = slice_set (slice_set cells (places_of cells + place) (cell j cells 0)) 0 j.empty

-- the leaves of a range of places
abbrev pub leaves_in : {S : Type 0} → List S → ℕ → ℕ → List S
leaves_in cells from to = take (to - from) (drop (places_of cells + from) cells)

-- The join of a range of leaves, or the refusal of a range that the cells do not have.
pub record Stretches {S : Type 0} (j : Joins S) (cells : List S) (from to : ℕ) (r : Result S Refusal) : Type 0 where
  pub refused : ranged cells from to ≡ Err NoSuchPosition → r ≡ Err NoSuchPosition
  pub granted : ranged cells from to ≡ Ok tt → (s : S) × (r ≡ Ok s) × (Tree j (places_of cells) cells → Gives j.is_summary (gathered j (leaves_in cells from to)) s)
