use Rattle.form_acts.specs.Acts.{nodes_after_act}
use Rattle.form_acts.proofs.ApplyLaws.{edits_are_there, edits_made}
use Rattle.form_acts.proofs.applying.edits_of.Goals as goal

pub returns-clause-made : goal.returns-clause-made
returns-clause-made c = edits_made c.args.page.now c.args.act.now c.in_ok-draft.draft c.into_edits.result.items c.in_ok-all.all.items c.in_ok-draft.ensures c.into_edits.ensures.made c.in_ok-all.ensures

pub returns-clause-there : goal.returns-clause-there
returns-clause-there c = edits_are_there c.args.page.now c.args.act.now c.in_ok-draft.draft c.into_edits.result.items c.in_ok-all.all.items (nodes_after_act c.args.page.now.tree.nodes c.args.act.now) c.in_ok-draft.ensures c.into_edits.ensures.there c.in_ok-all.ensures
