use Rattle.std.proofs.Common.{length, sym, ap, ◌∙◌}
use Rattle.form_page.proofs.RadioLaws.{marks_long}
use Rattle.form_page.proofs.radios.settled_states.Goals as goal

pub unchecked-requires : goal.unchecked-requires
unchecked-requires c = rw (c.nodes.ensures.value, c.deref.ensures.value) (sym (ap length c.in_ok-marks.ensures ∙ marks_long c.args.tree.now.nodes c.args.tree.now.nodes))
