use Rattle.std.proofs.Common.{List, Option, false, ◌∙◌, ap}
use Rattle.std.specs.Option.{option_map_or}
use Rattle.form_owner.specs.declared.answer.Answer.{Answer}
use Rattle.form_owner.specs.Owners.{is_kept_disabled}
use Rattle.form_owner.proofs.OwnerLaws.{disabled-owners_of}
use Rattle.form_owner.proofs.owners.Owners.disabled.Goals as goal

pub returns-in-Some-clause-rule : goal.returns-in-Some-clause-rule
returns-in-Some-clause-rule c = λ nodes stands.
    ap (λ (o : Option Answer). option_map_or (λ (a : Answer). a.disabled) o false) c.in-Some.ensures ∙ ap (λ (kept : List Answer). is_kept_disabled kept c.args.key) stands ∙ disabled-owners_of nodes c.args.key

pub returns-in-None-clause-rule : goal.returns-in-None-clause-rule
returns-in-None-clause-rule c = λ nodes stands.
    ap (λ (o : Option Answer). option_map_or (λ (a : Answer). a.disabled) o false) c.in-None.ensures ∙ ap (λ (kept : List Answer). is_kept_disabled kept c.args.key) stands ∙ disabled-owners_of nodes c.args.key
