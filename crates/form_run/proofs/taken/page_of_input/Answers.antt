use Rattle.std.proofs.Common.{sym, subst, ◌∙◌}
use Rattle.form_replies.specs.PageLines.{IsStop}
use Rattle.form_run.proofs.PageLaws.{no-text, text-page}
use Rattle.form_run.proofs.taken.page_of_input.Goals as goal

pub returns-in-Ok-take_page-clause-taken : goal.returns-in-Ok-take_page-clause-taken
returns-in-Ok-take_page-clause-taken c = text-page _ _ _ c.in-Ok.ensures.cases c.split_script.ensures.page ∙ c.in-Ok-take_page.ensures.taken

pub returns-in-Err-take_page-clause-refused : goal.returns-in-Err-take_page-clause-refused
returns-in-Err-take_page-clause-refused c =
    subst (IsStop c.in-Err-take_page.stop) (sym (text-page _ _ _ c.in-Ok.ensures.cases c.split_script.ensures.page)) c.in-Err-take_page.ensures.refused

pub returns-in-Err-clause-refused : goal.returns-in-Err-clause-refused
returns-in-Err-clause-refused c =
    subst (IsStop c.bad_page.result) (sym (no-text _ _ c.in-Err.ensures.cases.0 (c.valid_up_to.ensures ∙ c.in-Err.ensures.valid_len))) c.bad_page.ensures
