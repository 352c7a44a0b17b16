-- What bars an element from constraint validation that stands above it.
use Rattle.std.specs.Prelude.{Bool}
use Rattle.std.specs.List.{list_any}
use Rattle.form_tree.specs.declared.node.Node.{Node}
use Rattle.form_tree.specs.Elements.{is_datalist}
use Rattle.form_tree.specs.Ownership.{ancestors}
use Rattle.form_tree.specs.Tree.{Nodes}

-- a datalist is among the element's ancestors (HTML, "The datalist element")
abbrev pub is_in_datalist : Nodes → Node → Bool
is_in_datalist ns n = list_any is_datalist (ancestors ns n.key)
