use Rattle.form_script.proofs.SpellingLaws.{back_ok, back_refused, back_syntax, literal_missing}
use Rattle.form_script.proofs.literal.unquote.Goals as goal

pub returns-in-Some-clause-ok : goal.returns-in-Some-clause-ok
returns-in-Some-clause-ok c = back_ok c.args.literal.now c.in-Some.inside.now c.text_of.result c.in-Some.ensures.value c.text_of.ensures

pub returns-in-Some-clause-syntax : goal.returns-in-Some-clause-syntax
returns-in-Some-clause-syntax c = back_syntax c.args.literal.now c.in-Some.inside.now c.text_of.result c.in-Some.ensures.value c.text_of.ensures

pub returns-in-Some-clause-refused : goal.returns-in-Some-clause-refused
returns-in-Some-clause-refused c = λ none. back_refused c.args.literal.now c.in-Some.inside.now c.text_of.result c.in-Some.ensures.value c.in-Some.ensures.some none

pub returns-in-None-clause-syntax : goal.returns-in-None-clause-syntax
returns-in-None-clause-syntax c = λ refused text. literal_missing c.args.literal.now text c.in-None.ensures.value
