use Rattle.form_owner.proofs.OwnerLaws.{moves_found}
use Rattle.form_owner.proofs.owners.Owners.moves.Goals as goal

pub returns : goal.returns
returns c = rw (c.in_ok-moves.ensures, c.answers.ensures, c.answers-2.ensures, c.requires.stands, c.in_ok-next.ensures, c.in_ok-set_attr.ensures.ok, c.in_ok-changed.ensures, c.in_ok-owned.ensures)
    (moves_found c.args.tree.now.nodes c.args.key c.args.name.now _)
