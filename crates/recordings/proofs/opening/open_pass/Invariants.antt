use Rattle.recordings.specs.Hand.{read_count, unread}
use Rattle.recordings.proofs.Notes.{Notes}
use Rattle.recordings.proofs.opening.open_pass.Given as goal

abbrev pub invariant-loop-index : goal.invariant-loop-index
invariant-loop-index g l = Notes (read_count l.initial.blocks) (read_count l.blocks) l.index (unread g.R.Read.remaining l.initial.blocks) (unread g.R.Read.remaining l.blocks)
