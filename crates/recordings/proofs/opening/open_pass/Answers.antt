use Rattle.std.proofs.Common.{Ok, sym, ap, ◌∙◌}
use Rattle.recordings.specs.Hand.{at_hand, read_count, unread}
use Rattle.recordings.specs.Opening.{kind_at}
use Rattle.recordings.proofs.Counts.{one_more, no_more}
use Rattle.recordings.proofs.Passing.{passed_up}
use Rattle.recordings.proofs.Notes.{note_more, opened_data, opened_nothing, opened_fault, begins_of, known_of}
use Rattle.recordings.proofs.opening.open_pass.Goals as goal

pub loop-index-preserved : goal.loop-index-preserved
loop-index-preserved g c =
    let next = c.in_ok-advance.ensures in
    let hand = at_hand c.advance.new.self in
    let more = one_more _ (read_count c.loop-index.blocks) (read_count c.advance.new.self) hand next.more next.counted c.if-not-branch.false in
    note_more (read_count c.advance.new.self) (unread g.R.Read.remaining c.advance.new.self) hand c.loop-index.invariant
    more.0 next.next more.1 (ap (kind_at c.loop-index.index) (sym c.block.ensures) ∙ sym c.in_ok-letter.ensures ∙ ap Ok c.in_default.is)

pub returns-in_err-letter : goal.returns-in_err-letter
returns-in_err-letter g c =
    let next = c.in_ok-advance.ensures in
    let hand = at_hand c.advance.new.self in
    let passed = passed_up _ c.in_err-letter.field-0.0 c.from_residual-in_err-letter.ensures.1 in
    let more = one_more _ (read_count c.loop-index.blocks) (read_count c.advance.new.self) hand next.more next.counted c.if-not-branch.false in
    let opened = opened_fault (read_count c.advance.new.self) (unread g.R.Read.remaining c.advance.new.self) hand c.in_err-letter.field-0.0 _ c.loop-index.invariant
    more.0 next.next more.1 (ap (kind_at c.loop-index.index) (sym c.block.ensures) ∙ sym c.in_err-letter.ensures) passed in
    record { begins = begins_of opened; numbered = opened.numbered; known = known_of opened }

pub returns-in-Some : goal.returns-in-Some
returns-in-Some g c =
    let next = c.in_ok-advance.ensures in
    let hand = at_hand c.advance.new.self in
    let more = one_more _ (read_count c.loop-index.blocks) (read_count c.advance.new.self) hand next.more next.counted c.if-not-branch.false in
    let opened = opened_data (read_count c.advance.new.self) (unread g.R.Read.remaining c.advance.new.self) hand c.in-Some.letter c.loop-index.invariant
    more.0 next.next more.1 (ap (kind_at c.loop-index.index) (sym c.block.ensures) ∙ sym c.in_ok-letter.ensures ∙ ap Ok c.in-Some.is) in
    record { begins = begins_of opened; numbered = opened.numbered; known = known_of opened }

pub returns-then-not-branch : goal.returns-then-not-branch
returns-then-not-branch g c =
    let next = c.in_ok-advance.ensures in
    let hand = at_hand c.advance.new.self in
    let none = no_more _ (read_count c.loop-index.blocks) (read_count c.advance.new.self) hand next.more next.counted c.if-not-branch.true in
    let opened = opened_nothing (read_count c.advance.new.self) (unread g.R.Read.remaining c.advance.new.self) hand c.loop-index.invariant
    none.0 next.next none.1 in
    record { begins = begins_of opened; numbered = tt; known = known_of opened }
