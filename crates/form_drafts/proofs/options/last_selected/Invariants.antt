use Rattle.std.proofs.Common.{◌≡◌, None, drop}
use Rattle.form_tree.specs.Elements.{passes}
use Rattle.form_tree.specs.Selects.{is_selected}
use Rattle.form_drafts.proofs.OptionLaws.{latest}
use Rattle.form_drafts.proofs.options.last_selected.Given as goal

-- the last so far, or a later one
abbrev pub invariant-loop-key : goal.invariant-loop-key
invariant-loop-key l = latest (passes is_selected l.draft.nodes) l.last (drop l.key-index l.options) ≡ latest (passes is_selected l.draft.nodes) None l.options
