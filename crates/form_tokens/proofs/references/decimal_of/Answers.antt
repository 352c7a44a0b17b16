use Rattle.form_tokens.specs.declared.class.Class.TheVariants as classes
use Rattle.form_tokens.proofs.Numbers.{run_numeral, digit_below}
use Rattle.form_tokens.proofs.references.decimal_of.Goals as goal

pub character_of-requires-clause-numeral : goal.character_of-requires-clause-numeral
character_of-requires-clause-numeral c = run_numeral 10 classes.Digit digit_below c.args.text.now c.in_ok-digits.digits.now c.in_ok-digits.rest.now c.in_ok-digits.ensures
