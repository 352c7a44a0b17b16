use Rattle.std.proofs.Common.{◌≡◌, Some, sym, ap, ◌∙◌, subst, map}
use Rattle.form_tree.specs.declared.node.Key.{Key}
use Rattle.form_tree.specs.declared.node.Node.{Node}
use Rattle.form_tree.specs.RadioGroup.{radio_group}
use Rattle.form_tree.specs.Tree.{at_key}
use Rattle.form_tree.proofs.Laws.{found_key}
use Rattle.form_page.proofs.MemberLaws.{absent_listed}
use Rattle.form_page.proofs.page.Page.members.Goals as goal

pub members_of-requires-clause-there : goal.members_of-requires-clause-there
members_of-requires-clause-there c =
    let found = c.in-Some.ensures in
    subst (λ (k : Key). at_key c.self.inside.tree.nodes k ≡ Some c.in-Some.node.now) (sym (found_key c.self.inside.tree.nodes c.args.key c.in-Some.node.now (sym found))) (sym found)

pub returns-in-Some : goal.returns-in-Some
returns-in-Some c =
    rw (← c.self.view_is)
    (c.members_of.ensures ∙ ap (λ (k : Key). map (λ (n : Node). n.key) (radio_group c.self.inside.tree.nodes k)) (found_key c.self.inside.tree.nodes c.args.key c.in-Some.node.now (sym c.in-Some.ensures)))

pub returns-in-None : goal.returns-in-None
returns-in-None c = rw (← c.self.view_is) (sym (absent_listed c.self.inside.tree.nodes c.args.key (sym c.in-None.ensures)))
