use Rattle.std.proofs.Common.{arith, rules}
use Rattle.recordings.proofs.Cutting.{block_read}
use Rattle.recordings.proofs.blocks.Blocks.advance.Goals as goal

pub returns-clause-next : goal.returns-clause-next
returns-clause-next g c =
    let filled = c.in_ok-filled.ensures in
    let gives = block_read _ _ c.in_ok-filled.filled c.fill.new.bytes (omega arith) (omega arith) filled.bytes (λ short. filled.end (omega (arith, short))) in
    search (rules, gives)
