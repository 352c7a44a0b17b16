use Rattle.form_page.proofs.OpeningLaws.{opened_bound, opened_few}
use Rattle.form_page.proofs.page.Page.from_raws.Goals as goal

pub page_of-requires : goal.page_of-requires
page_of-requires g c = opened_few c.args.raws.items c.in_ok-tree.tree _ c.in_ok-tree.ensures (rw c.args.raws.ok.0 at c.requires.few)

pub returns-clause-bound : goal.returns-clause-bound
returns-clause-bound g c = opened_bound c.args.raws.items c.in_ok-tree.tree c.args.steps.now c.page_of.new.steps c.in_ok-tree.ensures c.page_of.ensures.bound
