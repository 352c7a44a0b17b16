use Rattle.form_text.proofs.UnitLaws.{units_fit}
use Rattle.form_text.proofs.utf16.code_units.Goals as goal

pub returns : goal.returns
returns c = let units = units_fit c.args.c c.len_utf16.result c.len_utf16.ensures.bmp c.len_utf16.ensures.surrogate_pair in record {
  value = units.0;
  short = units.1;
}
