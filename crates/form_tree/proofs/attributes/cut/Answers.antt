use Rattle.std.proofs.Common.{rules, not}
use Rattle.std.proofs.lemmas.Fn.{filter_same}
use Rattle.form_tree.specs.Tree.{is_named}
use Rattle.form_tree.proofs.attributes.cut.Goals as goal

pub returns : goal.returns
returns c = filter_same _ (λ attr. not (is_named c.args.name.now attr)) _ (λ x b f called. search rules) _ _ c.retain.ensures.filtered
