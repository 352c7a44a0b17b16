use Rattle.form_changes.proofs.AttrCounts.{type_beyond, type_within}
use Rattle.form_changes.proofs.counting.is_beyond_by_type.Goals as goal

pub returns-then-adds_value : goal.returns-then-adds_value
returns-then-adds_value c = type_beyond c.args.value.now c.args.node.now c.count_with-count.result c.count_with-count.ensures c.if-adds_value.ensures

pub returns : goal.returns
returns c = type_within c.args.value.now c.args.node.now c.count_with-count.result c.count_with-count.ensures c.if-adds_value.ensures
