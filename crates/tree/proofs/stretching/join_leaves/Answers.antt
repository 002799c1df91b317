use Rattle.std.proofs.Common.{◌≡◌, ◌+◌, ◌-◌, ◌*◌, ◌%◌, ◌<◌, ◌≤◌, length, sym, refl, arith}
use Rattle.tree.specs.Answers.{places_of}
use Rattle.tree.proofs.Rows.{row, Ends, ends_moved, ends_none, ends_front, ends_back, ends_half}
use Rattle.tree.proofs.stretching.join_leaves.Goals.{then-low-eq1, else-low-eq1, then-high-eq1, else-high-eq1}
use Rattle.tree.proofs.stretching.join_leaves.Goals as goal

pub loop-low-init : goal.loop-low-init
loop-low-init g c =
    let cells = c.args.cells.now in
    let are = c.in_ok-leaves.ensures in (
      omega arith,
      omega arith,
      (λ h. omega arith),
      λ t.
          ends_none g.met.S.Summary.laws (places_of cells) cells (omega arith) t c.in_ok-leaves.leaves.start c.in_ok-leaves.leaves.end c.empty-front.result c.empty-back.result (omega arith) (omega arith)
          c.empty-front.ensures c.empty-back.ensures,
    )

pub loop-low-preserved : goal.loop-low-preserved
loop-low-preserved g c =
    let j = g.S.Summary.joins in
    let laws = g.met.S.Summary.laws in
    let cells = c.args.cells.now in
    let n = places_of cells in
    let are = c.in_ok-leaves.ensures in
    let l = c.loop-low in
    let a = c.if-low-eq1 in
    let b = c.if-high-eq1 in
    let lt = c.loop-low-test.true in
    let top = l.invariant.1 in
    let pos : 0 < l.low = l.invariant.2 (omega arith) in
    let long : 2 * n ≤ length cells = omega arith in
    let first = c.in_ok-leaves.leaves.start in
    let all = row j cells first (c.in_ok-leaves.leaves.end - first) in
    let low_even : (a.low % 2 ≡ 0) × (a.low ≤ l.high) × (l.low ≤ a.low) = elim a.branch [ then-low-eq1 w ↦ (omega arith, omega arith, omega arith) | else-low-eq1 w ↦ (omega arith, omega arith, omega arith) ] in
    let high_even : (b.high % 2 ≡ 0) × (a.low ≤ b.high) × (b.high ≤ l.high) = elim b.branch [ then-high-eq1 w ↦ (omega arith, omega arith, omega arith) | else-high-eq1 w ↦ (omega arith, omega arith, omega arith) ] in (
      omega arith,
      omega arith,
      (λ h. omega arith),
      λ t.
          let s0 = l.invariant.3 t in
          let s1 : Ends j cells a.low l.high a.front l.back all = elim a.branch [
            | then-low-eq1 w ↦ ends_moved j cells (l.low + 1) a.low l.high l.high (sym w.low-is) refl (sym w.front-is) refl
                (ends_front laws n cells long t l.low l.high l.front l.back all w.index-cells-low.result w.join-front.result lt (omega arith) w.index-cells-low.is w.join-front.ensures s0)
            | else-low-eq1 w ↦ ends_moved j cells l.low a.low l.high l.high (sym w.low-is) refl (sym w.front-is) refl s0
          ] in
          let s2 : Ends j cells a.low b.high a.front b.back all = elim b.branch [
            | then-high-eq1 w ↦ ends_moved j cells a.low a.low (l.high - 1) b.high refl (sym w.high-is) refl (sym w.back-is)
                (ends_back laws n cells long t a.low l.high a.front l.back all w.index-cells-high.result w.join-back.result (omega arith) (omega arith) w.index-cells-high.is w.join-back.ensures s1)
            | else-high-eq1 w ↦ ends_moved j cells a.low a.low l.high b.high refl (sym w.high-is) refl (sym w.back-is) s1
          ] in
          ends_half laws n cells long t a.low b.high a.front b.back all low_even.0 high_even.0 (omega arith) high_even.1 (omega arith) s2,
    )
