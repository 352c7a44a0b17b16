use Rattle.std.proofs.Common.{not, rules}
use Rattle.std.proofs.lemmas.Fn.{filter_same}
use Rattle.form_groups.specs.Groups.{has_key}
use Rattle.form_groups.proofs.group.take_member.Goals as goal

pub returns : goal.returns
returns c = filter_same _ (λ m. not (has_key c.args.key m)) _ (λ x b f called. search rules) _ _ c.retain.ensures.filtered
