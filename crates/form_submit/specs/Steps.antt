-- The steps that the parts of a submission are gathered by.
use Rattle.std.specs.Prelude.{List, [], ◌∷◌, if◌then◌else◌}
use Rattle.form_tree.specs.declared.node.Key.{Key}
use Rattle.form_tree.specs.declared.node.Node.{Node}
use Rattle.form_tree.specs.Tree.{Nodes}
use Rattle.form_page.specs.Invalid.{is_invalid_in}

-- the key of an element, where it is an invalid control of the form
abbrev pub key_if_invalid : Nodes → Key → Node → List Key
key_if_invalid ns form n = if is_invalid_in ns form n then n.key ∷ [] else []
