use Rattle.std.proofs.Common.{sym, ap, ◌∙◌}
use Rattle.form_types.specs.TypeTable.{kind_named}
use Rattle.form_changes.proofs.AttrCounts.{kind_set}
use Rattle.form_changes.proofs.counting.kind_after_type.Goals as goal

pub returns : goal.returns
returns c = c.kind_named.ensures ∙ ap kind_named (sym (kind_set c.args.value.now c.args.node.now))
