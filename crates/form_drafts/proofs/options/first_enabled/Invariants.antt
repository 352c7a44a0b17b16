use Rattle.std.proofs.Common.{◌≡◌, not, drop}
use Rattle.std.specs.List.{find}
use Rattle.form_tree.specs.Elements.{passes}
use Rattle.form_tree.specs.Selects.{is_disabled_option}
use Rattle.form_drafts.proofs.options.first_enabled.Given as goal

-- the options that are passed are disabled
abbrev pub invariant-loop-key : goal.invariant-loop-key
invariant-loop-key l = find (λ k. not (passes (is_disabled_option l.draft.nodes) l.draft.nodes k)) (drop l.key-index l.options) ≡ find (λ k. not (passes (is_disabled_option l.draft.nodes) l.draft.nodes k)) l.options
