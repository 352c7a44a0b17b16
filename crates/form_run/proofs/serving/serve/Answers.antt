use Rattle.form_run.proofs.ChosenLaws.{stay_same}
use Rattle.form_run.proofs.FilesLaws.{came_same, files_served}
use Rattle.form_run.proofs.SubmittedLaws.{reply_nothing}
use Rattle.form_run.proofs.serving.serve.Goals as goal

pub returns-in_err-asked-clause-part : goal.returns-in_err-asked-clause-part
returns-in_err-asked-clause-part g c = reply_nothing _ _ _ _ _

pub returns-in_err-asked-clause-counts : goal.returns-in_err-asked-clause-counts
returns-in_err-asked-clause-counts g c = came_same _

pub returns-clause-files : goal.returns-clause-files
returns-clause-files g c =
    files_served _ _ c.args.session.now c.serve_asked.new.session _ c.serve_asked.result c.serve_asked.ensures.next c.serve_asked.ensures.shelf c.requires

pub returns-in_err-asked-clause-others : goal.returns-in_err-asked-clause-others
returns-in_err-asked-clause-others g c = stay_same _ _
