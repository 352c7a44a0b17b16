use Rattle.std.proofs.Common.{◌≡◌, Some, sym, ◌∙◌, ap}
use Rattle.std.specs.Option.{option_copied}
use Rattle.form_owner.proofs.OwnerLaws.{form_known, form_unknown, known_above}
use Rattle.form_owner.proofs.answer.form_above.Goals as goal

pub returns-then-is_form : goal.returns-then-is_form
returns-then-is_form c =
    let known : Some c.in-Some.up.now ≡ known_above c.args.tree.now.nodes c.args.key = ap option_copied (sym c.in-Some.is) ∙ c.requires.up in
    let law = form_known c.args.tree.now.nodes c.requires.tree c.args.key c.in-Some.up.now known in
    sym (rw (← c.if-is_form.ensures) at law)

pub returns-else-is_form : goal.returns-else-is_form
returns-else-is_form c =
    let known : Some c.in-Some.up.now ≡ known_above c.args.tree.now.nodes c.args.key = ap option_copied (sym c.in-Some.is) ∙ c.requires.up in
    let law = form_known c.args.tree.now.nodes c.requires.tree c.args.key c.in-Some.up.now known in
    sym (rw (← c.if-is_form.ensures) at law)

pub returns-in-None : goal.returns-in-None
returns-in-None c = sym (form_unknown c.args.tree.now.nodes c.requires.tree c.args.key (ap option_copied (sym c.in-None.is) ∙ c.requires.up))
