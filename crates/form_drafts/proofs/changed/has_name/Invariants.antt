use Rattle.std.proofs.Common.{◌≡◌, drop}
use Rattle.std.specs.List.{list_any}
use Rattle.form_tree.specs.Tree.{is_named}
use Rattle.form_drafts.proofs.changed.has_name.Given as goal

-- the attributes that are passed have other names
abbrev pub invariant-loop-attr : goal.invariant-loop-attr
invariant-loop-attr l = list_any (is_named l.name) (drop l.attr-index l.attrs) ≡ list_any (is_named l.name) l.attrs
