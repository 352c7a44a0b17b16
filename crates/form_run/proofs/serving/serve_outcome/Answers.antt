use Rattle.std.proofs.Common.{[], refl}
use Rattle.form_pending.proofs.Laws.{part_nothing}
use Rattle.form_ports.proofs.Laws.{NoneFell-same}
use Rattle.form_run.proofs.ChosenLaws.{stay_same}
use Rattle.form_run.proofs.SubmittedLaws.{outcome_nothing}
use Rattle.form_run.proofs.serving.serve_outcome.Goals as goal

pub returns-in_err-text-in-Stopped-clause-part : goal.returns-in_err-text-in-Stopped-clause-part
returns-in_err-text-in-Stopped-clause-part g c = outcome_nothing _ c.args.page.now c.args.outcome.now _ _ _ _ c.requires (part_nothing _ _ _ [] refl)

pub returns-in_err-text-in-Stopped-clause-counts : goal.returns-in_err-text-in-Stopped-clause-counts
returns-in_err-text-in-Stopped-clause-counts g c = NoneFell-same _

pub returns-in_err-line-in-NoRequest-clause-part : goal.returns-in_err-line-in-NoRequest-clause-part
returns-in_err-line-in-NoRequest-clause-part g c = outcome_nothing _ c.args.page.now c.args.outcome.now _ _ _ _ c.requires (part_nothing _ _ _ [] refl)

pub returns-in_err-line-in-NoRequest-clause-counts : goal.returns-in_err-line-in-NoRequest-clause-counts
returns-in_err-line-in-NoRequest-clause-counts g c = NoneFell-same _

pub returns-in_ok-text-in-Stopped-clause-counts : goal.returns-in_ok-text-in-Stopped-clause-counts
returns-in_ok-text-in-Stopped-clause-counts g c = NoneFell-same _

pub returns-in_ok-line-in-NoRequest-clause-counts : goal.returns-in_ok-line-in-NoRequest-clause-counts
returns-in_ok-line-in-NoRequest-clause-counts g c = NoneFell-same _

pub returns-in_err-text-in-Stopped-clause-others : goal.returns-in_err-text-in-Stopped-clause-others
returns-in_err-text-in-Stopped-clause-others g c = stay_same _ _

pub returns-in_err-line-in-NoRequest-clause-others : goal.returns-in_err-line-in-NoRequest-clause-others
returns-in_err-line-in-NoRequest-clause-others g c = stay_same _ _

pub returns-in_ok-text-in-Stopped-clause-others : goal.returns-in_ok-text-in-Stopped-clause-others
returns-in_ok-text-in-Stopped-clause-others g c = stay_same _ _

pub returns-in_ok-line-in-NoRequest-clause-others : goal.returns-in_ok-line-in-NoRequest-clause-others
returns-in_ok-line-in-NoRequest-clause-others g c = stay_same _ _
