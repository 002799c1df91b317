use Rattle.std.proofs.Common.{◌≡◌, ◌*◌, length, take, ap, ◌∙◌, arith}
use Rattle.std.specs.List.{flat_map}
use Rattle.std.proofs.lemmas.List.{take_at}
use Rattle.std.specs.Result.{result_ok}
use Rattle.std.proofs.lemmas.Option.{MatchOption-at_some}
use Rattle.std.proofs.lemmas.Bool.{cond-true, cond-false, lt-ltb, le-ltb}
use Rattle.block.specs.declared.heads.Head.TheVariants as head
use Rattle.block.specs.Layout.{framed}
use Rattle.block.proofs.Fronts.{refused, written}
use Rattle.block.proofs.items.write_items.Goals as goal

pub returns-then-items-gt-MOST_RECORDS : goal.returns-then-items-gt-MOST_RECORDS
returns-then-items-gt-MOST_RECORDS g c =
    let front = MatchOption-at_some _ _ c.in_ok-front.front (c.ok_or.ensures.ok_part ∙ ap result_ok c.in_ok-front.was) c.first_chunk_mut.ensures.cases in
    refused _ _ c.args.memory.now c.in_ok-front.front.now _ front (cond-true _ _ _ (lt-ltb 31 _ c.if-items-gt-MOST_RECORDS.true))

pub returns : goal.returns
returns g c =
    let items = c.args.items.now in
    let bs = flat_map g.K.Recorded.records.written items in
    let h = head.Data g.K.Recorded.records.letter (length items) in
    let few = c.if-items-gt-MOST_RECORDS.false in
    let size : length bs ≡ 16 * length items = c.lay_items-content.ensures.size in
    let content : take c.content_size.result c.lay_items-content.result ≡ bs = rw c.lay_items-content.ensures.content (take_at bs _ c.content_size.result (omega arith)) in
    let name = c.letter.ensures in
    let block : c.block_with.result ≡ framed h bs = c.block_with.ensures ∙ cc in
    let front = MatchOption-at_some _ _ c.in_ok-front.front (c.ok_or.ensures.ok_part ∙ ap result_ok c.in_ok-front.was) c.first_chunk_mut.ensures.cases in
    written _ h bs c.args.memory.now c.in_ok-front.front.now c.block_with.result front (cond-false _ _ _ (le-ltb 31 _ few)) block size (omega arith) (λ k. omega (arith, c.type_inv.memory k))
