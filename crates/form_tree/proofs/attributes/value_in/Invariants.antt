use Rattle.std.proofs.Common.{◌≡◌, drop}
use Rattle.form_tree.specs.Tree.{attr_in}
use Rattle.form_tree.proofs.attributes.value_in.Given as goal

-- the attributes that are passed have other names
abbrev pub invariant-loop-known : goal.invariant-loop-known
invariant-loop-known l = attr_in (drop l.known-index l.attrs) l.name ≡ attr_in l.attrs l.name
