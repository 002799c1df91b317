use Rattle.std.proofs.Common.{◌≡◌, ℕ, ◌+◌, ◌/◌, ◌<◌, ◌≤◌, ◌⊎◌, map, length, Ok, sym, ap, ◌∙◌, subst, inl, inr, arith}
use lib.Seq.{paste}
use Rattle.std.proofs.lemmas.List.{length-map}
use Rattle.std.proofs.lemmas.Bool.{cond-true, le-leb}
use Rattle.loading.proofs.RecordReads.{items_size, items_count}
use Rattle.tree.specs.Answers.{places_of, with_leaves}
use Rattle.tree.specs.Cells.{cell, Rejoined}
use Rattle.tree.specs.Capacity.{capacity}
use Rattle.tree.proofs.Pastes.{paste_before, paste_behind}
use Rattle.tree.proofs.Writings.{in_range}
use Rattle.run.proofs.run.loading_blocks.append_records.Goals as goal

pub returns : goal.returns
returns g c =
    let j = g.K.Summary.joins in
    let f = g.K.Station.rules.of_item in
    let r = g.K.Recorded.records in
    let bs = c.args.records.now in
    let before = c.args.cells.now in
    let first = c.args.first in
    let count = length bs / 16 in
    let wrote = c.lay_records.new.cells in
    let n = places_of before in
    let places : c.capacity_of-places.result ≡ n = c.capacity_of-places.ensures.is in
    let held = c.capacity_of-places.ensures.largest.held in
    let low = c.if-first-places.false in
    let room = c.if-count-places.false in
    let fits : first + count ≤ n = omega arith in
    let same_places : places_of wrote ≡ n = ap capacity c.lay_records.ensures.long in
    let done : c.rejoin_leaves.result ≡ Ok tt = c.rejoin_leaves.ensures.is ∙ in_range j wrote first (first + count) (omega arith) (omega arith) in
    record {
      is = done ∙ sym (cond-true _ _ _ (le-leb (first + count) n fits));
      refused = λ no. let z : ◌≡◌ {A = ℕ} 0 1 = cc in absurd (omega arith);
      granted = λ _ is e.
          let size = items_size r bs is e in
          let sized : length (map f is) ≡ length is = length-map is f in
          let laid : wrote ≡ with_leaves before first (map f is) = c.lay_records.ensures.laid is e ∙ ap (λ m. paste before (m + first) (map f is) (length (map f is))) places in
          let within : n + first + length (map f is) ≤ length before = omega arith in
          let enough : length (map f is) ≤ length (map f is) = omega arith in
          let outside : (k : ℕ) → (k < places_of wrote + first) ⊎ (places_of wrote + (first + count) ≤ k) → cell j wrote k ≡ cell j before k = λ k h.
          ap (λ xs. cell j xs k) laid ∙ elim h [
            | inl low ↦ paste_before before (n + first) (map f is) (length (map f is)) j.empty within enough k (omega arith)
            | inr high ↦ paste_behind before (n + first) (map f is) (length (map f is)) j.empty within enough k (omega arith)
          ] in
          let put = c.rejoin_leaves.ensures.granted done before (record { long = c.lay_records.ensures.long; same = outside }) in (
            items_count r bs is e g.met.K.Recorded.recording (λ i. omega (arith, c.type_inv.records i)),
            subst (λ w. Rejoined j n before w c.rejoin_leaves.new.cells) laid (subst (λ m. Rejoined j m before wrote c.rejoin_leaves.new.cells) same_places put),
          );
    }
