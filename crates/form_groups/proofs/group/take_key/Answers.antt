use Rattle.std.proofs.Common.{not, rules}
use Rattle.std.proofs.lemmas.Fn.{filter_same}
use Rattle.form_tree.specs.Elements.{same_key}
use Rattle.form_groups.proofs.group.take_key.Goals as goal

pub returns : goal.returns
returns c = filter_same _ (λ k. not (same_key c.args.key k)) _ (λ x b f called. search rules) _ _ c.retain.ensures.filtered
