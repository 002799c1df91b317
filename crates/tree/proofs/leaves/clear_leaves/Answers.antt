use Rattle.std.proofs.Common.{rules, ◌≡◌, ℕ, ◌-◌, ◌≤◌, List, length, take, drop, replicate, Ok, inl, inr, refl, ap, ◌∙◌, subst, arith}
use lib.Seq.{paste}
use Rattle.std.proofs.lemmas.List.{length-replicate, length-take, length-drop, places}
use Rattle.std.proofs.lemmas.Slice.{put_mid-paste}
use borrow.Rule.Slice.PartMut.{put_mid}
use Rattle.station.specs.Laws.{Joins}
use Rattle.tree.specs.Answers.{AlikeOutside, ranged, with_leaves, Writes}
use Rattle.tree.proofs.Writings.{above_written, in_range}
use Rattle.tree.proofs.leaves.clear_leaves.Goals as goal

module _ {S : Type 0} (j : Joins S) (cells part : List S) (low high : ℕ) (order : low ≤ high) (room : high ≤ length cells) (size : length part ≡ high - low) where
  part_alike : AlikeOutside j low high cells (put_mid low (high - low) cells part)
  part_alike = record {
    long = search (rules, places);
    same = λ k out. elim out [ inl a ↦ search (rules, places) | inr b ↦ search (rules, places) ];
  }

pub returns : goal.returns
returns g c =
    let j = g.S.Summary.joins in
    let cells = c.args.cells.now in
    let from = c.args.places.start in
    let to = c.args.places.end in
    let low = c.in_ok-leaves.leaves.start in
    let high = c.in_ok-leaves.leaves.end in
    let are = c.in_ok-leaves.ensures in
    let part = c.empty_all.new.cells in
    let none = replicate (to - from) j.empty in
    let counted : length (take (high - low) (drop low cells)) ≡ to - from = simp (length-take, length-drop) (omega arith) in
    let empty : part ≡ none = c.empty_all.ensures ∙ ap (λ n. replicate n j.empty) counted in
    let size : length none ≡ to - from = length-replicate (to - from) j.empty in
    let wrote : put_mid low (high - low) cells part ≡ with_leaves cells from none =
    put_mid-paste low (high - low) cells part none (length none) empty (omega arith) refl ∙ ap (λ m. paste cells m none (length none)) are.first in
    subst (λ w. Writes j (ranged cells from to) cells w c.rejoin.new.cells (Ok tt)) wrote
    (above_written j (ranged cells from to) low high cells (put_mid low (high - low) cells part) c.rejoin.new.cells (in_range j cells from to are.order are.room)
    (part_alike j cells part low high (omega arith) (omega arith) (ap length empty ∙ size ∙ (omega arith))) c.rejoin.ensures)
