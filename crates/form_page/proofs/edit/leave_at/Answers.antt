use Rattle.form_page.proofs.FileLaws.{gone_past, gone_there}
use Rattle.form_page.proofs.edit.leave_at.Goals as goal

pub returns-then-place-files : goal.returns-then-place-files
returns-then-place-files c = gone_there c.args.files.now c.args.place c.index-files-place.result c.if-place-files.true

pub returns-else-place-files : goal.returns-else-place-files
returns-else-place-files c = gone_past c.args.files.now c.args.place c.if-place-files.false
