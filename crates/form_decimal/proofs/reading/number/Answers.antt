use Rattle.std.proofs.Common.{Some, ap, sym, ◌∙◌}
use Rattle.form_decimal.specs.Numeral.{signed}
use Rattle.form_decimal.specs.Plain.{plain}
use Rattle.form_decimal.proofs.MeaningLemmas.{meant_some, meant_none}
use Rattle.form_decimal.proofs.reading.number.Goals as goal

pub returns-in_default : goal.returns-in_default
returns-in_default c = sym (meant_none (plain c.args.numeral.now) c.in_default.ensures.none)

pub returns : goal.returns
returns c =
    ap Some (c.from_magnitude.ensures ∙ ap (λ b. signed b c.in-Some.units) c.is_minus.ensures)
    ∙ sym (meant_some (plain c.args.numeral.now) c.in-Some.units c.in-Some.ensures.some)
