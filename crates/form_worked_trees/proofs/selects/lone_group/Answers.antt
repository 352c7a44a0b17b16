use Rattle.std.proofs.Common.{refl}
use Rattle.form_tree.proofs.Laws.{tree_of_raws_tested}
use Rattle.form_worked_trees.proofs.selects.lone_group.Goals as goal

pub returns-clause-tree : goal.returns-clause-tree
returns-clause-tree c = rw (c.in_ok-raws.ensures.items, c.element-group.ensures, c.element-option.ensures) (tree_of_raws_tested _ refl)
