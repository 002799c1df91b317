use Rattle.std.proofs.Common.{Ok, string_bytes, ap, ◌∙◌}
use Rattle.recordings.specs.Hand.{at_hand, read_count, unread}
use Rattle.passes.proofs.Behind.{begun, told_kind, told_kind_all, told_nothing, told_nothing_all, told_error, told_error_all}
use Rattle.passes.proofs.reporting.report.Goals as goal

pub returns-in-Ok-Some : goal.returns-in-Ok-Some
returns-in-Ok-Some g c =
    let new = c.new-blocks.ensures in
    let opened = c.open_pass.ensures in
    let began = begun _ (read_count c.open_pass.new.blocks) (at_hand c.open_pass.new.blocks) _ _ (unread g.R.Read.remaining c.open_pass.new.blocks) _ _
    new.uncounted new.unread (c.in-Ok-Some.is ∙ ap Ok c.in-Ok-Some.field-0-is) opened.begins opened.known in
    record {
      told = told_kind c.in-Ok-Some.opening string_bytes c.report_letter.result began c.report_letter.ensures;
      known = told_kind_all c.in-Ok-Some.opening string_bytes c.report_letter.result began c.report_letter.ensures;
    }

pub returns-in_ok-empty_text-in-Ok-None : goal.returns-in_ok-empty_text-in-Ok-None
returns-in_ok-empty_text-in-Ok-None g c =
    let new = c.new-blocks.ensures in
    let opened = c.open_pass.ensures in
    let began = begun _ (read_count c.open_pass.new.blocks) (at_hand c.open_pass.new.blocks) _ _ (unread g.R.Read.remaining c.open_pass.new.blocks) _ _
    new.uncounted new.unread (c.in-Ok-None.is ∙ ap Ok c.in-Ok-None.field-0-is) opened.begins opened.known in
    let text = string_bytes c.in_ok-empty_text-in-Ok-None.field-0 in
    record { told = told_nothing text began c.in_ok-empty_text-in-Ok-None.ensures; known = told_nothing_all text began c.in_ok-empty_text-in-Ok-None.ensures }

pub returns-in-Err : goal.returns-in-Err
returns-in-Err g c =
    let new = c.new-blocks.ensures in
    let opened = c.open_pass.ensures in
    let began = begun _ (read_count c.open_pass.new.blocks) (at_hand c.open_pass.new.blocks) _ _ (unread g.R.Read.remaining c.open_pass.new.blocks) _ _
    new.uncounted new.unread c.in-Err.is opened.begins opened.known in
    record {
      told = told_error c.in-Err.error string_bytes c.error_text.result began c.error_text.ensures;
      known = told_error_all c.in-Err.error string_bytes c.error_text.result began c.error_text.ensures;
    }
