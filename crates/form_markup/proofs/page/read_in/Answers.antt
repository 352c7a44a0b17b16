use Rattle.std.proofs.Common.{Ok, Err, ◌∙◌}
use Rattle.form_markup.proofs.AnswerLaws.{answers_read}
use Rattle.form_markup.proofs.Once.{only_raws}
use Rattle.form_markup.proofs.Sound.{spelled_no_email, spelled_tree, spelled_within}
use Rattle.form_markup.proofs.page.read_in.Goals as goal

pub returns-in-Ok-clause-found : goal.returns-in-Ok-clause-found
returns-in-Ok-clause-found c = rw c.into_vec.ensures (answers_read c.args.around.now c.args.text.now (Ok c.in-Ok.raws) c.in-Ok.ensures)

pub returns-in-Err-clause-fault : goal.returns-in-Err-clause-fault
returns-in-Err-clause-fault c = answers_read c.args.around.now c.args.text.now (Err c.in-Err.fault) c.in-Err.ensures

pub returns-in-Ok-clause-only : goal.returns-in-Ok-clause-only
returns-in-Ok-clause-only c raws h = c.into_vec.ensures ∙ only_raws c.args.around.now c.args.text.now raws (Ok c.in-Ok.raws) (answers_read c.args.around.now c.args.text.now (Ok c.in-Ok.raws) c.in-Ok.ensures) h

pub returns-in-Err-clause-only : goal.returns-in-Err-clause-only
returns-in-Err-clause-only c raws h = only_raws c.args.around.now c.args.text.now raws (Err c.in-Err.fault) (answers_read c.args.around.now c.args.text.now (Err c.in-Err.fault) c.in-Err.ensures) h

pub returns-in-Ok-clause-tree : goal.returns-in-Ok-clause-tree
returns-in-Ok-clause-tree c = rw c.into_vec.ensures (spelled_tree c.args.around.now c.args.text.now c.in-Ok.raws (answers_read c.args.around.now c.args.text.now (Ok c.in-Ok.raws) c.in-Ok.ensures))

pub returns-in-Ok-clause-limits : goal.returns-in-Ok-clause-limits
returns-in-Ok-clause-limits c = rw c.into_vec.ensures (spelled_within c.args.around.now c.args.text.now c.in-Ok.raws (answers_read c.args.around.now c.args.text.now (Ok c.in-Ok.raws) c.in-Ok.ensures))

pub returns-in-Ok-clause-email : goal.returns-in-Ok-clause-email
returns-in-Ok-clause-email c = rw c.into_vec.ensures (spelled_no_email c.args.around.now c.args.text.now c.in-Ok.raws (answers_read c.args.around.now c.args.text.now (Ok c.in-Ok.raws) c.in-Ok.ensures))
