-- The invalid controls of a form (HTML, "Constraint validation", "statically validate the
-- constraints").
use Rattle.std.specs.Prelude.{ℕ, ◌&&◌, Bool, false, List, length, map, filter, Option, Some, None, if◌then◌else◌}
use Rattle.std.specs.Option.{option_map_or}
use Rattle.form_tree.specs.declared.node.Key.{Key}
use Rattle.form_tree.specs.declared.node.Node.{Node}
use Rattle.form_tree.specs.Disabling.{is_candidate}
use Rattle.form_tree.specs.Elements.{is_form, passes, same_key}
use Rattle.form_tree.specs.Ownership.{owner_of}
use Rattle.form_tree.specs.Tree.{Nodes}
use Rattle.form_judge.specs.Flags.{has_some}
use Rattle.form_page.specs.Views.{verdict_of}

-- the form owns the element
abbrev pub is_owned_by : Nodes → Key → Node → Bool
is_owned_by ns form n = option_map_or (same_key form) (owner_of ns n.key) false

-- the elements that it owns, in tree order
abbrev pub owned_by : Nodes → Key → List Key
owned_by ns form = map (λ n. n.key) (filter (is_owned_by ns form) ns)

-- A submittable element that the form owns, that is a candidate for constraint validation, and that
-- has some flag.
abbrev pub is_invalid_in : Nodes → Key → Node → Bool
is_invalid_in ns form n =
    is_owned_by ns form n && is_candidate ns n.key && option_map_or has_some (verdict_of ns n) false

-- the invalid controls of a form, in tree order
abbrev pub invalid_controls : Nodes → Key → Nodes
invalid_controls ns form = filter (is_invalid_in ns form) ns

-- how many a form has; none for another element
abbrev pub invalid_count : Nodes → Key → Option ℕ
invalid_count ns form = if passes is_form ns form then Some (length (invalid_controls ns form)) else None
