use Rattle.std.proofs.Common.{◌≡◌, drop}
use Rattle.form_changes.specs.Changing.{without_file_number}
use Rattle.form_drafts.specs.Drafts.{draft_of, with_each}
use Rattle.form_acts.proofs.single.withdraw.Given as goal

-- the elements that are left make of those so far what all make of those of the page
abbrev pub invariant-loop-key : goal.invariant-loop-key
invariant-loop-key l = record l.draft { nodes = with_each (without_file_number l.file) l.draft.nodes (drop l.key-index l.holders) }
    ≡ draft_of l.page (with_each (without_file_number l.file) l.page.tree.nodes l.holders)
