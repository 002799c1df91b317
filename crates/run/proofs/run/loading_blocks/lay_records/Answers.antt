use Rattle.std.proofs.Common.{◌≡◌, ℕ, ◌+◌, ◌/◌, ◌<◌, map, length, get_or, set, Ok, sym, ap, ◌∙◌, arith}
use lib.Seq.{paste}
use Rattle.std.proofs.lemmas.List.Edits.{paste_more}
use Rattle.std.proofs.lemmas.List.{get_or-map, length-map, length-set}
use Rattle.loading.proofs.RecordReads.{here_record, items_size, item_at, record_bytes}
use Rattle.run.proofs.Loads.{chunk_record}
use Rattle.run.proofs.run.loading_blocks.lay_records.Goals as goal

pub loop-index-preserved-in_default : goal.loop-index-preserved-in_default
loop-index-preserved-in_default g c =
    let bs = c.args.records.now in
    let i = c.loop-index.index in
    let r = g.K.Recorded.records in
    let lt : i < length bs / 16 = omega (arith, c.loop-index-test.true, c.as_chunks.ensures.front_len) in (
      c.loop-index.invariant.0,
      λ is e.
          let one = sym (item_at r bs is e i lt).read ∙ ap r.reading (sym (chunk_record bs _ i c.as_chunks.ensures.front lt)) ∙ sym c.read.ensures ∙ c.in_default.is in
          let z : ◌≡◌ {A = ℕ} 0 1 = cc in
          absurd (omega arith),
    )

pub loop-index-preserved : goal.loop-index-preserved
loop-index-preserved g c =
    let bs = c.args.records.now in
    let l = c.loop-index in
    let i = l.index in
    let r = g.K.Recorded.records in
    let f = g.K.Station.rules.of_item in
    let before = c.args.cells.now in
    let place = c.args.place in
    let s = c.of_item.result in
    let lt : i < length bs / 16 = omega (arith, c.loop-index-test.true, c.as_chunks.ensures.front_len) in
    let found : r.reading (record_bytes bs i) ≡ Ok c.in-Ok.item = ap r.reading (sym (chunk_record bs _ i c.as_chunks.ensures.front lt)) ∙ sym c.read.ensures ∙ c.in-Ok.is in
    let counts = g.met.K.Recorded.recording.read_counts (record_bytes bs i) c.in-Ok.item (here_record bs i lt (λ k. omega (arith, c.type_inv.records k))) found in (
      length-set _ _ _ ∙ l.invariant.0,
      λ is e.
          let at = item_at r bs is e i lt in
          let size = items_size r bs is e in
          let sized : length (map f is) ≡ length is = length-map is f in
          let item : c.in-Ok.item ≡ at.item = (let same = sym found ∙ at.read in cc) in
          let there : s ≡ get_or (map f is) i s =
          (c.of_item.ensures counts).is ∙ ap f (item ∙ sym (at.here c.in-Ok.item)) ∙ sym (get_or-map f is i c.in-Ok.item s (omega arith)) in
          ap (λ xs. set xs (place + i) s) (l.invariant.1 is e)
          ∙ ap (set (paste before place (map f is) i) (place + i)) there
          ∙ paste_more before place (map f is) i s (omega (arith, c.requires)) (omega arith),
    )

pub returns : goal.returns
returns g c =
    let bs = c.args.records.now in
    let l = c.loop-index in
    let f = g.K.Station.rules.of_item in
    record {
      long = l.invariant.0;
      laid = λ is e.
          let size = items_size g.K.Recorded.records bs is e in
          let end : l.index ≡ length (map f is) = omega (arith, c.loop-index-test.false, c.as_chunks.ensures.front_len, length-map is f) in
          l.invariant.1 is e ∙ ap (paste c.args.cells.now c.args.place (map f is)) end;
    }
