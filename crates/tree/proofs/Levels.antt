-- A level joined cell by cell, and levels one above another up to the root.
use Rattle.std.proofs.Common.{◌≡◌, ℕ, zero, suc, ◌+◌, ◌*◌, ◌/◌, ◌^◌, ◌<◌, ◌≤◌, ◌⊎◌, List, length, get_or, set, sym, ◌∙◌, subst, ⊎_elim, pow-suc, pow_pos, arith}
use Rattle.std.proofs.lemmas.List.{get_or-set_other, get_or_read, length-set}
use Rattle.std.proofs.lemmas.Bool.{cases_lt}
use Rattle.station.specs.Laws.{Joins, JoinLaws, Gives}
use Rattle.tree.specs.Capacity.{IsCapacity}
use Rattle.tree.specs.Cells.{cell}
use Rattle.tree.specs.Levels.{Above, TreeBut, Within, LevelJoined}
use Rattle.tree.proofs.Trees.{but_weaker, cell_joined}

-- what may be wrong while a level is joined: the rest of it, and the level above
abbrev pub Unjoined : ℕ → ℕ → ℕ → ℕ → Type 0
Unjoined low high k m = Within k high m ⊎ Above low high m

module _ {S : Type 0} (j : Joins S) (low high : ℕ) where
  pub level_all : {before after : List S} (k : ℕ) → high ≤ k → LevelJoined j low high (Unjoined low high k) before after → LevelJoined j low high (Above low high) before after
  level_all k done l = record {
    long = l.long;
    others = l.others;
    tree = λ n lt long t. but_weaker j (Unjoined low high k) (Above low high) (λ m w. grind arith) (l.tree n lt long t);
  }

module _ {S : Type 0} {j : Joins S} (laws : JoinLaws j) where
  -- one turn of `join_level`, from what the call of the join promised
  pub level_more : (low high k : ℕ) (before cells : List S) (x y v : S) → low ≤ k → k < high → 2 * high ≤ length cells
      → x ≡ get_or cells (2 * k) x → y ≡ get_or cells (2 * k + 1) y
      → (j.is_summary x → j.is_summary y → Gives j.is_summary (j.joined x y) v)
      → LevelJoined j low high (Unjoined low high k) before cells → LevelJoined j low high (Unjoined low high (k + 1)) before (set cells k v)
  level_more low high k before cells x y v from to room left right joins l =
      let x-is = get_or_read cells (2 * k) x (omega arith) left j.empty in
      let y_is = get_or_read cells (2 * k + 1) y (omega arith) right j.empty in
      record {
        long = length-set cells k v ∙ l.long;
        others = λ m out. get_or-set_other cells k m v j.empty (λ e. out (omega arith, omega arith)) ∙ l.others m out;
        tree = λ n lt long t.
            let was = l.tree n lt long t in
            let same = l.long in
            let made = (joins (subst j.is_summary (sym x-is) (was.counts (2 * k) (omega arith))) (subst j.is_summary (sym y_is) (was.counts (2 * k + 1) (omega arith)))).is in
            cell_joined laws n (Unjoined low high k) (Unjoined low high (k + 1)) cells k v (omega arith) (omega arith) (cc)
            (λ m ne ok. grind arith) was;
      }

-- cells from `low` up to `high` of one level, which ends before 2 ^ depth; at depth 0 there is cell 0 alone, above the root
abbrev pub OneLevel : ℕ → ℕ → Type 0
OneLevel low high = (depth : ℕ) × (high ≤ 2 ^ depth) × (2 ^ depth ≤ 2 * low + 1)

-- Inner cells joined anew where some were `spoilt`, with those `left` that may be wrong.
pub record Climbed {S : Type 0} (j : Joins S) (n : ℕ) (spoilt left : ℕ → Type 0) (before after : List S) : Type 0 where
  pub long : length after ≡ length before
  pub others : (k : ℕ) → (k ≡ 0) ⊎ (n ≤ k) → cell j after k ≡ cell j before k
  pub tree : TreeBut j n spoilt before → TreeBut j n left after

module _ {S : Type 0} (j : Joins S) (n : ℕ) where
  -- one turn of `rejoin`, from `low` up to `high` to the level above, which ends before `end`
  pub climbed_more : (spoilt : ℕ → Type 0) (low high end : ℕ) (before cells after : List S) → end ≡ (high + 1) / 2 → 1 < low → high ≤ 2 * n → 2 * n ≤ length cells
      → LevelJoined j (low / 2) end (Above (low / 2) end) cells after
      → Climbed j n spoilt (Above low high) before cells → Climbed j n spoilt (Above (low / 2) end) before after
  climbed_more spoilt low high end before cells after is pos le long level c = record {
    long = level.long ∙ c.long;
    others = λ k h. level.others k (λ w. grind arith) ∙ c.others k h;
    tree = λ t. level.tree n (omega arith) long (subst (λ m. TreeBut j n (Within (low / 2) m) cells) (sym is) (c.tree t));
  }

-- the level above
pub level_above : (low high end : ℕ) → end ≡ (high + 1) / 2 → OneLevel low high → OneLevel (low / 2) end
level_above low high end is (zero, below, above) = (0, omega arith, omega arith)
level_above low high end is (suc d, below, above) = let double = pow-suc 2 d in (d, omega arith, omega arith)

-- above the root there is cell 0 alone
pub level_top : (low high : ℕ) → low ≤ 1 → OneLevel low high → high ≤ 2
level_top low high top (zero, below, above) = omega arith
level_top low high top (suc zero, below, above) = omega arith
level_top low high top (suc (suc d), below, above) = grind (arith, pow-suc 2 (suc d), pow-suc 2 d, pow_pos d)

-- the level of the leaves
pub leaves_level : (cells n low high : ℕ) → IsCapacity cells n → n ≤ low → high ≤ 2 * n → OneLevel low high
leaves_level cells n low high is from to =
    ⊎_elim (λ (few : cells < 2). let none = is.none few in (0, omega arith, omega arith))
    (λ (two : 2 ≤ cells).
    let power = is.power two in
    let n_is : n ≡ 2 ^ power.0 = power.1 in
    let double = pow-suc 2 power.0 in
    (suc power.0, omega arith, omega arith)) (cases_lt cells 2)
