use Rattle.std.proofs.Common.{length, refl, ap, ◌∙◌, arith}
use Rattle.std.specs.Result.{result_ok}
use Rattle.std.proofs.lemmas.Option.{MatchOption-at_some}
use Rattle.std.proofs.lemmas.Bool.{cond-true, cond-false, lt-ltb, le-ltb}
use Rattle.block.specs.declared.heads.Head.TheVariants as head
use Rattle.block.proofs.Fronts.{refused, written}
use Rattle.block.proofs.notes.write_note.Goals as goal

pub returns-then-text-gt-CONTENT_SIZE : goal.returns-then-text-gt-CONTENT_SIZE
returns-then-text-gt-CONTENT_SIZE c =
    let front = MatchOption-at_some _ _ c.in_ok-front.front (c.ok_or.ensures.ok_part ∙ ap result_ok c.in_ok-front.was) c.first_chunk_mut.ensures.cases in
    refused _ _ c.args.memory.now c.in_ok-front.front.now _ front (cond-true _ _ _ (lt-ltb 496 _ c.if-text-gt-CONTENT_SIZE.true))

pub returns : goal.returns
returns c =
    let text = c.args.text.now in
    let le = c.if-text-gt-CONTENT_SIZE.false in
    let front = MatchOption-at_some _ _ c.in_ok-front.front (c.ok_or.ensures.ok_part ∙ ap result_ok c.in_ok-front.was) c.first_chunk_mut.ensures.cases in
    written _ (head.Note (length text)) text c.args.memory.now c.in_ok-front.front.now c.block_with.result front (cond-false _ _ _ (le-ltb 496 _ le)) c.block_with.ensures refl le (λ k. omega (arith, c.type_inv.memory k))
