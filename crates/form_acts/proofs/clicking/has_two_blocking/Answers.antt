use Rattle.std.proofs.Common.{ap, arith}
use Rattle.form_tree.specs.Tree.{Tree}
use Rattle.form_acts.proofs.ClickLaws.{blocking_found}
use Rattle.form_acts.proofs.clicking.has_two_blocking.Goals as goal

pub loop-key-init : goal.loop-key-init
loop-key-init c = let found = blocking_found c.args.page.now.tree.nodes c.tree.result.now (ap (λ (t : Tree). t.nodes) c.tree.ensures) c.len.ensures.tree c.args.form c.owned-owned.result.now c.owned-owned.ensures in omega (arith, found)
