use Rattle.form_script.proofs.CutLaws.{split_cuts}
use Rattle.form_script.proofs.reading.cut.Goals as goal

pub returns : goal.returns
returns c = split_cuts c.args.mark c.args.text.now c.split_once.result c.split_once.ensures.cases c.requires
