use Rattle.std.proofs.Common.{ap, ◌∙◌, arith}
use Rattle.byte_fields.specs.Numbers.{with_field}
use Rattle.byte_fields.specs.Unused.{zeros}
use Rattle.block.proofs.Frames.{filled}
use Rattle.block.proofs.framing.block_with.Goals as goal

pub returns : goal.returns
unfolding zeros
returns c =
    let d = c.put-2.new.bytes in
    c.put_number.ensures
    ∙ ap (λ n. with_field 508 512 n d) (c.from-check.ensures ∙ c.check_of.ensures.is)
    ∙ filled c.args.head c.bytes.result c.args.content.now c.put.new.bytes d (omega arith) c.bytes.ensures c.put.ensures c.put-2.ensures
