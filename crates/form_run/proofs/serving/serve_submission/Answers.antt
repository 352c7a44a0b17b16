use Rattle.std.proofs.lemmas.Result.{err_from_is_err_and}
use Rattle.form_ports.proofs.Laws.{NoneFell-same, NoneFell-trans}
use Rattle.form_pending.proofs.Laws.{part_of_says}
use Rattle.std.proofs.lemmas.Result.{on_ok_weaker}
use Rattle.form_run.proofs.ChosenLaws.{outcome_stay, stay_same, stay_then}
use Rattle.form_run.proofs.FilesLaws.{came_fell, rose_later}
use Rattle.form_run.proofs.SubmittedLaws.{submission_nothing, submission_part, submission_part_ok, submission_said}
use Rattle.form_run.proofs.serving.serve_submission.Goals as goal

pub returns-in_err-flush_before_files-clause-part : goal.returns-in_err-flush_before_files-clause-part
returns-in_err-flush_before_files-clause-part g c = submission_nothing _ _ _ _ _ _ _ c.in_err-flush_before_files.ensures.part

pub returns-in_err-flush_before_files-clause-counts : goal.returns-in_err-flush_before_files-clause-counts
returns-in_err-flush_before_files-clause-counts g c = NoneFell-same _

pub returns-in_err-outcome-clause-part : goal.returns-in_err-outcome-clause-part
returns-in_err-outcome-clause-part g c = submission_nothing _ _ _ _ _ _ _ (part_of_says _ _ _ _ _ c.in_ok-flush_before_files.ensures.said)

pub returns-in_err-serve_outcome-clause-part : goal.returns-in_err-serve_outcome-clause-part
returns-in_err-serve_outcome-clause-part g c =
    submission_part _ _ _ _ _ _ _ c.in_ok-flush_before_files.ensures.said _ c.in_ok-outcome.ensures.outcome _ c.in_ok-outcome.ensures.kept _ _ (rw c.page.ensures at c.in_err-serve_outcome.ensures.part)

pub returns-in_err-serve_outcome-clause-counts : goal.returns-in_err-serve_outcome-clause-counts
returns-in_err-serve_outcome-clause-counts g c = NoneFell-trans _ _ _ c.in_ok-outcome.ensures.counts c.in_err-serve_outcome.ensures.counts

pub returns-in_err-serve_outcome-clause-file_fault : goal.returns-in_err-serve_outcome-clause-file_fault
returns-in_err-serve_outcome-clause-file_fault g c =
    let failed = err_from_is_err_and c.from_residual-in_err-serve_outcome.result c.from_residual-in_err-serve_outcome.ensures.1 in
    λ e. rose_later _ _ _ (came_fell _ _ c.in_ok-outcome.ensures.counts) (c.in_err-serve_outcome.ensures.file_fault (cc (e, failed.1, failed.2)))

pub returns-clause-said : goal.returns-clause-said
returns-clause-said g c =
    on_ok_weaker c.say_text.result (λ ok. submission_said _ _ _ _ _ _ _ c.in_ok-flush_before_files.ensures.said _ c.in_ok-outcome.ensures.outcome _ c.in_ok-outcome.ensures.kept _ _ (rw c.page.ensures at c.in_ok-serve_outcome.ensures.said) _ _ ok) c.say_text.ensures.said

pub returns-clause-part : goal.returns-clause-part
returns-clause-part g c =
    submission_part_ok _ _ _ _ _ _ _ c.in_ok-flush_before_files.ensures.said _ c.in_ok-outcome.ensures.outcome _ c.in_ok-outcome.ensures.kept _ _ (rw c.page.ensures at c.in_ok-serve_outcome.ensures.said) _ _ c.say_text.ensures.part

pub returns-clause-counts : goal.returns-clause-counts
returns-clause-counts g c = NoneFell-trans _ _ _ c.in_ok-outcome.ensures.counts c.in_ok-serve_outcome.ensures.counts

pub returns-in_err-flush_before_files-clause-others : goal.returns-in_err-flush_before_files-clause-others
returns-in_err-flush_before_files-clause-others g c = stay_same _ _

pub returns-in_err-serve_outcome-clause-others : goal.returns-in_err-serve_outcome-clause-others
returns-in_err-serve_outcome-clause-others g c = stay_then _ _ _ _ c.in_ok-outcome.ensures.others (outcome_stay _ _ _ _ _ _ c.in_ok-outcome.ensures.outcome c.in_err-serve_outcome.ensures.others)

pub returns-clause-others : goal.returns-clause-others
returns-clause-others g c = stay_then _ _ _ _ c.in_ok-outcome.ensures.others (outcome_stay _ _ _ _ _ _ c.in_ok-outcome.ensures.outcome c.in_ok-serve_outcome.ensures.others)
