use Rattle.std.proofs.Common.{◌∙◌}
use Rattle.form_script.specs.LineReading.{words_of}
use Rattle.form_script.specs.Reading.{positive_of}
use Rattle.form_script.proofs.LineLaws.{some_all}
use Rattle.form_script.proofs.lists.are_positives.Goals as goal

pub returns : goal.returns
returns c = c.are_all.ensures ∙ some_all positive_of (words_of c.args.text.now)
