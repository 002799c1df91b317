use Rattle.std.proofs.Common.{refl, arith}
use Rattle.recordings.specs.Hand.{at_hand, read_count, unread}
use Rattle.recordings.proofs.Counts.{one_more, no_more}
use Rattle.recordings.proofs.Passing.{passed_up}
use Rattle.recordings.proofs.Loading.{loading_starts, loading_turn, loading_ends, loading_ends_all, loading_fails, loading_breaks, loading_breaks_all, fault_numbered}
use Rattle.recordings.proofs.loads.load_all.Goals as goal

pub loop-index-init : goal.loop-index-init
loop-index-init g c = record {
  loading = λ given number met. loading_starts c.args.first (read_count c.args.blocks.now) (at_hand c.args.blocks.now) (unread g.R.Read.remaining c.args.blocks.now) met;
  counted = refl;
}

pub loop-index-preserved : goal.loop-index-preserved
loop-index-preserved g c =
    let next = c.in_ok-advance.ensures in
    let hand = at_hand c.advance.new.self in
    let more = one_more _ (read_count c.loop-index.blocks) (read_count c.advance.new.self) hand next.more next.counted c.if-not-branch.false in
    record {
      loading = λ given number met.
          loading_turn hand (unread g.R.Read.remaining c.advance.new.self) more.0 next.next more.1 (c.loop-index.invariant.loading given number met) c.in_ok-load_at_hand.ensures.serves;
      counted = omega (arith, more.0, c.loop-index.invariant.counted);
    }

pub returns-in_err-load_at_hand-clause-loaded : goal.returns-in_err-load_at_hand-clause-loaded
returns-in_err-load_at_hand-clause-loaded g c given number met =
    let fault = c.in_err-load_at_hand.field-0.0 in
    let refused = c.in_err-load_at_hand.ensures in
    loading_breaks fault _ (c.loop-index.invariant.loading given number met) refused.serves refused.numbered (passed_up _ fault c.from_residual.ensures.1)

pub returns-in_err-load_at_hand-clause-numbered : goal.returns-in_err-load_at_hand-clause-numbered
returns-in_err-load_at_hand-clause-numbered g c =
    let fault = c.in_err-load_at_hand.field-0.0 in
    fault_numbered (read_count c.args.blocks.now) (read_count c.loop-index.blocks) c.args.first c.loop-index.index fault _
    c.in_err-load_at_hand.ensures.numbered c.loop-index.invariant.counted (passed_up _ fault c.from_residual.ensures.1)

pub returns-in_err-load_at_hand-clause-known : goal.returns-in_err-load_at_hand-clause-known
returns-in_err-load_at_hand-clause-known g c given number met =
    let fault = c.in_err-load_at_hand.field-0.0 in
    let refused = c.in_err-load_at_hand.ensures in
    loading_breaks_all fault _ (c.loop-index.invariant.loading given number met) refused.serves refused.numbered (passed_up _ fault c.from_residual.ensures.1)

pub returns-then-not-branch-clause-loaded : goal.returns-then-not-branch-clause-loaded
returns-then-not-branch-clause-loaded g c given number met = loading_ends (read_count c.advance.new.self) (c.loop-index.invariant.loading given number met) c.in_ok-load_at_hand.ensures.serves

pub returns-then-not-branch-clause-known : goal.returns-then-not-branch-clause-known
returns-then-not-branch-clause-known g c given number met =
    let next = c.in_ok-advance.ensures in
    let hand = at_hand c.advance.new.self in
    let none = no_more _ (read_count c.loop-index.blocks) (read_count c.advance.new.self) hand next.more next.counted c.if-not-branch.true in
    loading_ends_all hand (unread g.R.Read.remaining c.advance.new.self) next.next none.1 (c.loop-index.invariant.loading given number met) c.in_ok-load_at_hand.ensures.serves

pub returns-in_err-advance-clause-loaded : goal.returns-in_err-advance-clause-loaded
returns-in_err-advance-clause-loaded g c given number met =
    loading_fails (read_count c.advance.new.self) c.load_at_hand.new.run _ _ (c.loop-index.invariant.loading given number met) c.from_residual-in_err-advance.ensures.1
