use Rattle.std.proofs.Common.{◌≡◌, cond, map, take}
use Rattle.form_tree.specs.Tree.{is_named}
use Rattle.form_drafts.proofs.changed.attrs_renewed.Given as goal

-- the attributes so far
abbrev pub invariant-loop-attr : goal.invariant-loop-attr
invariant-loop-attr l = l.list.items ≡ map (λ attr. cond (is_named l.name attr) (attr.0, l.value) attr) (take l.attr-index l.attrs)
