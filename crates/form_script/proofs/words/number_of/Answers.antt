use Rattle.std.proofs.Common.{sym}
use Rattle.form_script.proofs.WordLaws.{digits_numeral}
use Rattle.form_script.proofs.words.number_of.Goals as goal

pub value_of-requires : goal.value_of-requires
value_of-requires c = digits_numeral c.args.text.now (sym c.if-not-is_numeral.ensures)
