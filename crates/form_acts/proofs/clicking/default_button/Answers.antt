use Rattle.std.proofs.Common.{ap}
use Rattle.form_tree.specs.Tree.{Tree}
use Rattle.form_acts.proofs.ClickLaws.{default_found}
use Rattle.form_acts.proofs.clicking.default_button.Goals as goal

pub loop-key-init : goal.loop-key-init
loop-key-init c = default_found c.args.page.now.tree.nodes c.tree.result.now (ap (λ (t : Tree). t.nodes) c.tree.ensures) c.len.ensures.tree c.args.form c.owned-owned.result.now c.owned-owned.ensures
