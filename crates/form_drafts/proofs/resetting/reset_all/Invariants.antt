use Rattle.std.proofs.Common.{◌≡◌, drop}
use Rattle.std.specs.List.{fold}
use Rattle.form_drafts.specs.Drafts.{AreLike}
use Rattle.form_drafts.specs.Resetting.{with_reset}
use Rattle.form_drafts.proofs.resetting.reset_all.Given as goal

-- the controls that are left make of the elements so far what all make of the old ones
abbrev pub invariant-loop-key : goal.invariant-loop-key
invariant-loop-key l = record {
  made : record l.draft { nodes = fold with_reset l.draft.nodes (drop l.key-index l.keys) } ≡ record l.fn.draft { nodes = fold with_reset l.fn.draft.nodes l.keys };
  like : AreLike l.draft.nodes l.draft.page.tree.nodes;
}
