use Rattle.std.proofs.Common.{refl}
use Rattle.byte_fields.specs.Unused.{zeros}
use Rattle.block.proofs.Laid.{laid_turn}
use Rattle.block.proofs.items.lay_items.Goals as goal

pub loop-index-init : goal.loop-index-init
unfolding zeros
loop-index-init g c = record { size = refl; is = refl }

pub loop-index-preserved : goal.loop-index-preserved
loop-index-preserved g c =
    let l = c.loop-index in
    let turn = laid_turn g.K.Recorded.records.written (λ x. (g.met.K.Recorded.recording.written_record x).whole)
    c.args.items.now l.index l.content c.put.new.bytes c.index-items-index.result c.write.result
    c.loop-index-test.true c.requires c.index-items-index.is c.write.ensures l.invariant.size l.invariant.is c.put.ensures in
    record { size = turn.0; is = turn.1 }
