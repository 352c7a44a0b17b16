use Rattle.std.proofs.Common.{length, ap}
use Rattle.form_changes.proofs.AttrCounts.{count_new, count_there}
use Rattle.form_changes.proofs.counting.count_set.Goals as goal

pub returns-then-has_attr : goal.returns-then-has_attr
returns-then-has_attr c = λ value. count_there c.args.node.now c.args.name.now (length c.as_slice-count.result.now) (ap length c.as_slice-count.ensures) c.if-has_attr.ensures value

pub returns : goal.returns
returns c = λ value. count_new c.args.node.now c.args.name.now (length c.as_slice-count.result.now) (ap length c.as_slice-count.ensures) c.if-has_attr.ensures value
