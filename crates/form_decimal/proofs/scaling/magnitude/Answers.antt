use Rattle.std.proofs.Common.{sym, subst, ◌∙◌}
use Rattle.form_decimal.specs.Scaled.{IsBig}
use Rattle.form_decimal.specs.Plain.{plain}
use Rattle.form_decimal.proofs.ScalingLemmas.{big_no_number, coefficient_is}
use Rattle.form_decimal.proofs.scaling.magnitude.Goals as goal

pub returns-in_default-clause-none : goal.returns-in_default-clause-none
returns-in_default-clause-none c = λ m h.
    let e = coefficient_is (plain c.args.numeral.now) c.places_of-fraction.result.now c.places_of-fraction.ensures in
    big_no_number _ _ _ m (subst IsBig (sym e) c.in_default.ensures.none) h.1 h.0

pub returns-in-None-clause-some : goal.returns-in-None-clause-some
returns-in-None-clause-some c =
    let e = coefficient_is (plain c.args.numeral.now) c.places_of-fraction.result.now c.places_of-fraction.ensures ∙ sym c.in-Some.ensures.some in
    rw (e, ← c.places_of-fraction.ensures, c.in-None.is) c.scaled.ensures.some

pub returns-in-None-clause-none : goal.returns-in-None-clause-none
returns-in-None-clause-none c =
    let e = coefficient_is (plain c.args.numeral.now) c.places_of-fraction.result.now c.places_of-fraction.ensures ∙ sym c.in-Some.ensures.some in
    rw (e, ← c.places_of-fraction.ensures, c.in-None.is) c.scaled.ensures.none

pub returns-in-Some-exponent-clause-some : goal.returns-in-Some-exponent-clause-some
returns-in-Some-exponent-clause-some c =
    let e = coefficient_is (plain c.args.numeral.now) c.places_of-fraction.result.now c.places_of-fraction.ensures ∙ sym c.in-Some.ensures.some in
    rw (e, ← c.places_of-fraction.ensures, c.in-Some-exponent.is, ← c.is_minus.ensures) c.powered.ensures.some

pub returns-in-Some-exponent-clause-none : goal.returns-in-Some-exponent-clause-none
returns-in-Some-exponent-clause-none c =
    let e = coefficient_is (plain c.args.numeral.now) c.places_of-fraction.result.now c.places_of-fraction.ensures ∙ sym c.in-Some.ensures.some in
    rw (e, ← c.places_of-fraction.ensures, c.in-Some-exponent.is, ← c.is_minus.ensures) c.powered.ensures.none
