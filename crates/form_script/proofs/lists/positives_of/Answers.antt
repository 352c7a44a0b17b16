use Rattle.std.proofs.Common.{◌∙◌, rules, sym}
use Rattle.form_script.specs.LineReading.{positives_of}
use Rattle.form_script.specs.Reading.{positive_of}
use Rattle.form_script.proofs.LineLaws.{last_fails, read_fails, read_last, read_on, rest_short}
use Rattle.form_script.proofs.lists.positives_of.Goals as goal

pub returns-in_default : goal.returns-in_default
returns-in_default c = read_fails positive_of (positives_of c.args.text.now) c.words.numbers c.words.rest.now c.in-Some.word.now c.in-Some.behind.now c.words.invariant.1 c.in-Some.ensures (sym c.positive_of.ensures ∙ c.in_default.is)

pub words-smaller : goal.words-smaller
words-smaller c = rest_short c.words.rest.now c.in-Some.word.now c.in-Some.behind.now c.in-Some.ensures

pub words-preserved : goal.words-preserved
words-preserved c = (search rules, read_on positive_of (positives_of c.args.text.now) c.words.numbers _ c.words.rest.now c.in-Some.word.now c.in-Some.behind.now c.in-Some-positive_of.number c.words.invariant.1 c.in-Some.ensures c.in-Some-positive_of.ensures c.in_ok-push-in-Some.ensures.ok)

pub returns-in_default-positive_of : goal.returns-in_default-positive_of
returns-in_default-positive_of c = last_fails positive_of (positives_of c.args.text.now) c.words.numbers c.words.rest.now c.words.invariant.1 c.in-None.ensures (sym c.positive_of-in-None.ensures ∙ c.in_default-positive_of.is)

pub returns-in-None : goal.returns-in-None
returns-in-None c = read_last positive_of (positives_of c.args.text.now) c.words.numbers _ c.words.rest.now c.in-Some-positive_of-2.number c.words.invariant.1 c.in-None.ensures c.in-Some-positive_of-2.ensures c.in_ok-push-in-None.ensures.ok
