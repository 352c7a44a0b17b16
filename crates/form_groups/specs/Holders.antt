-- The elements that have each file among their selected files (HTML, "File Upload state").
use Rattle.std.specs.Prelude.{◌≡◌, ℕ, ◌==◌, List, [], map, filter, flat_map}
use Rattle.std.specs.BTreeMap.{get}
use Rattle.std.specs.Option.{option_map_or}
use Rattle.std.specs.Ordering.{nat_cmp}
use Rattle.form_tree.specs.declared.node.Key.{Key}
use Rattle.form_tree.specs.declared.node.Node.{Node}
use Rattle.form_tree.specs.Tree.{Nodes}
use Rattle.form_groups.specs.declared.holders.Holders.{Holders}

-- the element's key, as often as it has the file
abbrev pub held : ℕ → Node → List Key
held file n = map (λ number. n.key) (filter (λ number. number == file) n.state.files)

-- the keys of the elements that have the file, in tree order, each as often as it has it
abbrev pub holders : Nodes → ℕ → List Key
holders ns file = flat_map (held file) ns

-- the keys that are kept for a file
abbrev pub kept_keys : Holders → ℕ → List Key
kept_keys all file = option_map_or (λ keys. keys.items) (get nat_cmp all.lists file) []

-- they are those of the elements that have it
abbrev pub AreHolders : Holders → Nodes → Type 0
AreHolders all ns = (file : ℕ) → kept_keys all file ≡ holders ns file
