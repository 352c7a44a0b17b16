use Rattle.std.proofs.lemmas.Result.{on_ok_weaker}
use Rattle.form_run.proofs.ChosenLaws.{act_stay, stay_same}
use Rattle.form_run.proofs.FilesLaws.{act_contents, act_counts, came_fell, came_same}
use Rattle.form_run.proofs.SubmittedLaws.{no_command_said, reply_nothing}
use Rattle.form_run.proofs.serving.serve_asked.Goals as goal

pub returns-in_err-text-in-Show-clause-part : goal.returns-in_err-text-in-Show-clause-part
returns-in_err-text-in-Show-clause-part g c = reply_nothing _ _ _ _ _

pub returns-in_err-text-in-Show-clause-counts : goal.returns-in_err-text-in-Show-clause-counts
returns-in_err-text-in-Show-clause-counts g c = came_same _

pub returns-in_err-set_boundaries-in-Boundaries-clause-part : goal.returns-in_err-set_boundaries-in-Boundaries-clause-part
returns-in_err-set_boundaries-in-Boundaries-clause-part g c = reply_nothing _ _ _ _ _

pub returns-in_err-set_boundaries-in-Boundaries-clause-counts : goal.returns-in_err-set_boundaries-in-Boundaries-clause-counts
returns-in_err-set_boundaries-in-Boundaries-clause-counts g c = came_same _

pub returns-in-NoCommand-clause-said : goal.returns-in-NoCommand-clause-said
returns-in-NoCommand-clause-said g c = no_command_said _ _ _ _ _ c.in-NoCommand.is

pub returns-in-NoCommand-clause-counts : goal.returns-in-NoCommand-clause-counts
returns-in-NoCommand-clause-counts g c = came_same _

pub returns-in-Syntax-clause-counts : goal.returns-in-Syntax-clause-counts
returns-in-Syntax-clause-counts g c = came_same _

pub returns-in-Refused-clause-counts : goal.returns-in-Refused-clause-counts
returns-in-Refused-clause-counts g c = came_same _

pub returns-in-Nothing-clause-counts : goal.returns-in-Nothing-clause-counts
returns-in-Nothing-clause-counts g c = came_same _

pub returns-in-Act-clause-shelf : goal.returns-in-Act-clause-shelf
returns-in-Act-clause-shelf g c = on_ok_weaker c.serve_act.result (act_contents _ _ _ c.args.session.now.page _ _ c.in-Act.is) c.serve_act.ensures.shelf

pub returns-in-Act-clause-counts : goal.returns-in-Act-clause-counts
returns-in-Act-clause-counts g c = act_counts _ _ _ _ c.serve_act.result c.serve_act.ensures.shelf c.serve_act.ensures.kept

pub returns-in_ok-text-in-Show-clause-counts : goal.returns-in_ok-text-in-Show-clause-counts
returns-in_ok-text-in-Show-clause-counts g c = came_same _

pub returns-in_ok-set_boundaries-in-Boundaries-clause-counts : goal.returns-in_ok-set_boundaries-in-Boundaries-clause-counts
returns-in_ok-set_boundaries-in-Boundaries-clause-counts g c = came_same _

pub returns-in-Submit-clause-counts : goal.returns-in-Submit-clause-counts
returns-in-Submit-clause-counts g c = came_fell _ _ c.serve_submission.ensures.counts

pub returns-in_err-text-in-Show-clause-others : goal.returns-in_err-text-in-Show-clause-others
returns-in_err-text-in-Show-clause-others g c = stay_same _ _

pub returns-in_err-set_boundaries-in-Boundaries-clause-others : goal.returns-in_err-set_boundaries-in-Boundaries-clause-others
returns-in_err-set_boundaries-in-Boundaries-clause-others g c = stay_same _ _

pub returns-in-NoCommand-clause-others : goal.returns-in-NoCommand-clause-others
returns-in-NoCommand-clause-others g c = stay_same _ _

pub returns-in-Syntax-clause-others : goal.returns-in-Syntax-clause-others
returns-in-Syntax-clause-others g c = stay_same _ _

pub returns-in-Refused-clause-others : goal.returns-in-Refused-clause-others
returns-in-Refused-clause-others g c = stay_same _ _

pub returns-in-Nothing-clause-others : goal.returns-in-Nothing-clause-others
returns-in-Nothing-clause-others g c = stay_same _ _

pub returns-in-Act-clause-others : goal.returns-in-Act-clause-others
returns-in-Act-clause-others g c = act_stay _ _ _ _ c.serve_act.result c.serve_act.ensures.shelf c.serve_act.ensures.kept

pub returns-in_ok-text-in-Show-clause-others : goal.returns-in_ok-text-in-Show-clause-others
returns-in_ok-text-in-Show-clause-others g c = stay_same _ _

pub returns-in_ok-set_boundaries-in-Boundaries-clause-others : goal.returns-in_ok-set_boundaries-in-Boundaries-clause-others
returns-in_ok-set_boundaries-in-Boundaries-clause-others g c = stay_same _ _
