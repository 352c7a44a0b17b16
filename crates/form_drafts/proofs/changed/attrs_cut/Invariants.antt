use Rattle.std.proofs.Common.{◌≡◌, ◌++◌, not, drop}
use Rattle.std.specs.List.{filter}
use Rattle.form_tree.specs.Tree.{is_named}
use Rattle.form_drafts.proofs.changed.attrs_cut.Given as goal

-- the attributes so far, and those that are left
abbrev pub invariant-loop-attr : goal.invariant-loop-attr
invariant-loop-attr l = l.list.items ++ filter (λ attr. not (is_named l.name attr)) (drop l.attr-index l.attrs) ≡ filter (λ attr. not (is_named l.name attr)) l.attrs
