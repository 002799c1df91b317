use Rattle.std.proofs.Common.{arith}
use Rattle.recordings.proofs.Parts.{filled_on}
use Rattle.recordings.proofs.blocks.filling.fill.Goals as goal

pub loop-filled-preserved : goal.loop-filled-preserved
loop-filled-preserved g c =
    let before = c.loop-filled.invariant in
    let read = c.in_ok-n.ensures in
    record {
      within = omega arith;
      read = filled_on _ _ _ _ _ c.loop-filled.bytes c.read_uninterrupted.new.bytes _ (omega arith) read.bound.0 before.read read.bytes.0;
    }
