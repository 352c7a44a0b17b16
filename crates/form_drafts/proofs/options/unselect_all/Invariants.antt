use Rattle.std.proofs.Common.{◌≡◌, drop}
use Rattle.form_page.specs.Settling.{not_selected}
use Rattle.form_drafts.specs.Drafts.{with_each}
use Rattle.form_drafts.proofs.options.unselect_all.Given as goal

-- the keys that are left make of the elements so far what all make of the old ones
abbrev pub invariant-loop-key : goal.invariant-loop-key
invariant-loop-key l = record l.draft { nodes = with_each not_selected l.draft.nodes (drop l.key-index l.keys) } ≡ record l.fn.draft { nodes = with_each not_selected l.fn.draft.nodes l.keys }
