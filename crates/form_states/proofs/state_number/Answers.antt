use Rattle.std.proofs.Common.{◌∙◌}
use Rattle.form_states.specs.NumberLaws.{number_again}
use Rattle.form_states.proofs.Exactness.{found_if}
use Rattle.form_states.proofs.state_number.Goals as goal

pub returns-clause-found : goal.returns-clause-found
returns-clause-found g c = found_if g.S.Row.KIND c.args.text.now c.number.result c.number.ensures

pub returns-clause-only : goal.returns-clause-only
returns-clause-only g c = λ n h. c.number.ensures ∙ number_again g.S.Row.KIND c.args.text.now n h
