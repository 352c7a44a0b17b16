use Rattle.std.proofs.Common.{not, rules}
use Rattle.std.proofs.lemmas.Fn.{filter_same}
use Rattle.form_groups.specs.Groups.{has_no_member}
use Rattle.form_groups.proofs.groups.drop_empty.Goals as goal

pub returns : goal.returns
returns c = filter_same _ (λ g. not (has_no_member g)) _ (λ x b f called. search rules) _ _ c.retain.ensures.filtered
