use Rattle.std.proofs.Common.{arith}
use Rattle.std.proofs.lemmas.Result.{err_from_is_err_and}
use Rattle.form_replies.proofs.Laws.{part_of_said}
use Rattle.form_run.proofs.FilesLaws.{came_same, came_then, rose_later}
use Rattle.form_run.proofs.ServedLaws.{served_all, served_all_files, served_files, served_kept, served_more, served_part, served_start}
use Rattle.form_run.proofs.running.serve_all.Goals as goal

pub lines-init : goal.lines-init
lines-init g c = (served_start _ _ _ _ _ _ c.requires.unnamed, came_same _, c.requires.files, omega arith, c.utf8.text)

pub lines-preserved : goal.lines-preserved
lines-preserved g c = (
  served_more _ _ _ _ _ _ _ _ _ _ _ _ _ _ _ _ c.lines.invariant.0 c.in-Some.ensures.some _ _ _ c.in_ok-serve.ensures.said c.in_ok-serve.ensures.next c.in_ok-serve.ensures.shelf
      c.in_ok-serve.ensures.others,
  came_then _ _ _ c.lines.invariant.1 c.in_ok-serve.ensures.counts,
  c.in_ok-serve.ensures.files,
  omega (arith, c.lines.invariant.3, c.in_ok-serve.ensures.later),
  c.in-Some.ensures.text,
)

pub returns-in_err-serve-clause-part : goal.returns-in_err-serve-clause-part
returns-in_err-serve-clause-part g c = served_part _ _ _ _ _ _ _ _ _ _ _ _ _ _ _ _ c.lines.invariant.0 c.in-Some.ensures.some c.in_err-serve.ensures.part

pub returns-clause-said : goal.returns-clause-said
returns-clause-said g c = served_all _ _ _ _ _ _ _ _ _ _ _ _ c.lines.invariant.0 c.in_default.ensures.none

pub returns-clause-shelf : goal.returns-clause-shelf
returns-clause-shelf g c = served_all_files _ _ _ _ _ _ _ _ _ _ _ _ c.lines.invariant.0 c.in_default.ensures.none

pub returns-clause-kept : goal.returns-clause-kept
returns-clause-kept g c = served_files _ _ _ _ _ _ _ _ _ _ _ _ c.lines.invariant.0

pub returns-in_err-serve-clause-kept : goal.returns-in_err-serve-clause-kept
returns-in_err-serve-clause-kept g c = served_kept _ _ _ _ _ _ _ _ _ _ _ _ _ _ c.lines.invariant.0 c.in_err-serve.ensures.kept c.in_err-serve.ensures.others

pub returns-in_err-serve-clause-counts : goal.returns-in_err-serve-clause-counts
returns-in_err-serve-clause-counts g c = came_then _ _ _ c.lines.invariant.1 c.in_err-serve.ensures.counts

pub returns-in_err-serve-clause-file_fault : goal.returns-in_err-serve-clause-file_fault
returns-in_err-serve-clause-file_fault g c =
    let failed = err_from_is_err_and c.from_residual.result c.from_residual.ensures.1 in
    λ e. rose_later _ _ _ c.lines.invariant.1 (c.in_err-serve.ensures.file_fault (cc (e, failed.1, failed.2)))

pub returns-clause-part : goal.returns-clause-part
returns-clause-part g c = part_of_said _ _ _ _ _ (served_all _ _ _ _ _ _ _ _ _ _ _ _ c.lines.invariant.0 c.in_default.ensures.none)
