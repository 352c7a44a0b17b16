use Rattle.std.proofs.lemmas.Str.Pattern.{strip_suffix_char}
use Rattle.form_script.proofs.CutLaws.{suffix_strips}
use Rattle.form_script.proofs.reading.before_last.Goals as goal

pub returns : goal.returns
returns c = suffix_strips c.args.mark c.args.text.now c.strip_suffix.result (strip_suffix_char c.args.mark c.args.text.now c.strip_suffix.result c.strip_suffix.ensures.cases c.requires)
