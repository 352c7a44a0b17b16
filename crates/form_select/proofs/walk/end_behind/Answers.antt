use Rattle.std.proofs.Common.{sym, arith}
use Rattle.form_select.proofs.WalkLaws.{options_end, options_past, placed_within}
use Rattle.form_select.proofs.walk.end_behind.Goals as goal

pub overflow_step-behind : goal.overflow_step-behind
overflow_step-behind c =
    let below = placed_within c.args.tree.now.nodes c.args.select c.args.place c.requires in
    omega (arith, below, c.len-count.ensures.value, c.len-count.type_inv)

pub returns-then-not-is_below-clause-end : goal.returns-then-not-is_below-clause-end
returns-then-not-is_below-clause-end c =
    options_end c.args.tree.now.nodes c.len-count.ensures.tree c.args.select c.args.place c.requires c.loop-behind.behind (omega arith) (sym c.if-not-is_below.ensures)

pub returns-clause-end : goal.returns-clause-end
returns-clause-end c = options_past c.args.tree.now.nodes c.args.select c.len-count.result (omega (arith, c.len-count.ensures.value))
