use Rattle.std.proofs.Common.{ap}
use Rattle.form_drafts.proofs.SoFarLaws.{no_changes, nothing_so_far}
use Rattle.form_drafts.specs.Drafts.{draft_of}
use Rattle.form_drafts.proofs.draft.Draft.new.Goals as goal

pub invariant_of-result : goal.invariant_of-result
invariant_of-result c = no_changes c.args.page.now c.new.result c.new-2.result.items c.new.ensures.empty c.new-2.ensures.items

pub returns-clause-draft : goal.returns-clause-draft
returns-clause-draft c = ap (draft_of c.args.page.now) (nothing_so_far c.args.page.now.tree.nodes c.new.result c.new.ensures.empty)
