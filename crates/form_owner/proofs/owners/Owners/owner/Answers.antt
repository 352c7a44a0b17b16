use Rattle.std.proofs.Common.{List, ◌∙◌, ap}
use Rattle.std.specs.Option.{option_and_then}
use Rattle.form_owner.specs.declared.answer.Answer.{Answer}
use Rattle.form_owner.specs.Owners.{kept_owner}
use Rattle.form_owner.proofs.OwnerLaws.{kept_owner-owners_of}
use Rattle.form_owner.proofs.owners.Owners.owner.Goals as goal

pub returns-in-Some-clause-rule : goal.returns-in-Some-clause-rule
returns-in-Some-clause-rule c = λ nodes stands.
    ap (option_and_then (λ (a : Answer). a.owner)) c.in-Some.ensures ∙ ap (λ (kept : List Answer). kept_owner kept c.args.key) stands ∙ kept_owner-owners_of nodes c.args.key

pub returns-in-None-clause-rule : goal.returns-in-None-clause-rule
returns-in-None-clause-rule c = λ nodes stands.
    ap (option_and_then (λ (a : Answer). a.owner)) c.in-None.ensures ∙ ap (λ (kept : List Answer). kept_owner kept c.args.key) stands ∙ kept_owner-owners_of nodes c.args.key
