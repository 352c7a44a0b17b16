use Rattle.std.proofs.Common.{sym, ◌∙◌}
use Rattle.form_ports.proofs.Laws.{NoneFell-same}
use Rattle.form_entries.specs.EntryList.{entry_list}
use Rattle.form_submit.proofs.PartsLaws.{Outcome-direct, others-multipart}
use Rattle.form_submit.proofs.PieceLaws.{IfRequest-direct_sizes}
use Rattle.form_submit.proofs.submission.submit.Goals as goal

pub returns-in-Err-clause-counts : goal.returns-in-Err-clause-counts
returns-in-Err-clause-counts g c = NoneFell-same _

pub returns-in-Multipart-clause-others : goal.returns-in-Multipart-clause-others
returns-in-Multipart-clause-others g c =
    others-multipart _ _ _ c.in-Multipart.url (entry_list c.args.page.now c.args.form c.args.submitter c.args.at) (sym c.in-Ok.ensures ∙ c.in-Multipart.is) c.submit_parts.ensures.others

pub returns-in-Ok-direct_outcome-clause-counts : goal.returns-in-Ok-direct_outcome-clause-counts
returns-in-Ok-direct_outcome-clause-counts g c = NoneFell-same _

pub returns-in-Ok-direct_outcome-clause-outcome : goal.returns-in-Ok-direct_outcome-clause-outcome
returns-in-Ok-direct_outcome-clause-outcome g c =
    Outcome-direct _ _ c.in-Direct.direct (entry_list c.args.page.now c.args.form c.args.submitter c.args.at) _ _ (sym c.in-Ok.ensures ∙ c.in-Direct.is) c.in-Ok-direct_outcome.ensures

pub returns-in-Ok-direct_outcome-clause-sizes : goal.returns-in-Ok-direct_outcome-clause-sizes
returns-in-Ok-direct_outcome-clause-sizes g c =
    IfRequest-direct_sizes _ c.in-Direct.direct (entry_list c.args.page.now c.args.form c.args.submitter c.args.at) _ c.in-Ok-direct_outcome.ensures

pub returns-in-Err-direct_outcome-clause-counts : goal.returns-in-Err-direct_outcome-clause-counts
returns-in-Err-direct_outcome-clause-counts g c = NoneFell-same _
