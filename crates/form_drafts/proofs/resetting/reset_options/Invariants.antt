use Rattle.std.proofs.Common.{◌≡◌, drop}
use Rattle.form_drafts.specs.Drafts.{with_each}
use Rattle.form_drafts.specs.Resetting.{reset_option}
use Rattle.form_drafts.proofs.resetting.reset_options.Given as goal

-- the keys that are left make of the elements so far what all make of the old ones
abbrev pub invariant-loop-key : goal.invariant-loop-key
invariant-loop-key l = record l.draft { nodes = with_each reset_option l.draft.nodes (drop l.key-index l.options) } ≡ record l.fn.draft { nodes = with_each reset_option l.fn.draft.nodes l.options }
