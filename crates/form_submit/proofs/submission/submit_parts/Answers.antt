use Rattle.std.proofs.Common.{refl, inl, ◌∙◌}
use Rattle.form_ports.proofs.Laws.{NoneFell-same}
use Rattle.form_entries.specs.EntryList.{entry_list}
use Rattle.form_submit.proofs.EntryLaws.{named_there}
use Rattle.form_submit.proofs.PartsLaws.{Outcome-listed_long}
use Rattle.form_submit.proofs.submission.submit_parts.Goals as goal

pub returns-in-Err-clause-counts : goal.returns-in-Err-clause-counts
returns-in-Err-clause-counts g c = NoneFell-same _

pub outcome_of_parts-requires-clause-there : goal.outcome_of_parts-requires-clause-there
outcome_of_parts-requires-clause-there g c =
    let found = rw c.in-Some.is at c.in-Ok.ensures in
    named_there _ c.args.page.now c.args.form c.args.submitter c.args.at _ (c.deref.ensures.value ∙ found.0) c.requires.files

pub returns-in-None-clause-counts : goal.returns-in-None-clause-counts
returns-in-None-clause-counts g c = NoneFell-same _

pub returns-in-None-clause-outcome : goal.returns-in-None-clause-outcome
returns-in-None-clause-outcome g c =
    Outcome-listed_long _ c.args.url (entry_list c.args.page.now c.args.form c.args.submitter c.args.at) _ (rw c.in-None.is at c.in-Ok.ensures)

pub returns-in-None-clause-long : goal.returns-in-None-clause-long
returns-in-None-clause-long g c = inl (rw c.in-None.is at c.in-Ok.ensures, λ k. refl)
