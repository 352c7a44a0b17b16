use Rattle.form_page.proofs.OpeningLaws.{opened_made}
use Rattle.form_page.proofs.opening.opened_tree.Goals as goal

pub returns : goal.returns
returns c = opened_made c.args.raws.items c.in_ok-tree.tree c.begin.new.tree c.settle_radios.new.tree c.settle_selects.new.tree c.in_ok-tree.ensures c.in_ok-begin.ensures c.in_ok-settle_radios.ensures c.in_ok-settle_selects.ensures
