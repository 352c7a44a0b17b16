use Rattle.std.proofs.Common.{refl}
use Rattle.form_owner.proofs.OwnerLaws.{answer_there}
use Rattle.form_owner.proofs.answer.answer_at.Goals as goal

pub returns : goal.returns
returns c = answer_there c.args.tree.now.nodes c.requires.tree c.requires.known.0 c.args.key _ c.requires.known.2 refl c.in_ok-id_at.ensures c.form_above-ancestor_form.ensures c.owner_at.ensures c.disabling_above-disabling.ensures c.is_disabled.ensures
