-- The options of a select, one by one, and the bytes of entries.
use Rattle.std.specs.Prelude.{ℕ, ◌+◌, Bool, List, [], ◌∷◌, length, if◌then◌else◌, ◌&&◌}
use Rattle.form_tree.specs.declared.node.Key.{Key}
use Rattle.form_tree.specs.declared.node.Node.{Node}
use Rattle.form_tree.specs.Elements.{is_empty_text}
use Rattle.form_tree.specs.Selects.{is_option_of}
use Rattle.form_tree.specs.Tree.{Nodes}
use Rattle.form_encode.specs.declared.entry.Entry.{Entry}
use Rattle.form_page.specs.Page.{Page}
use Rattle.form_entries.specs.EntryList.{capped, entries_length, is_sent, text_entry, value_text}

-- an option of the select that is selected and not disabled
abbrev pub is_sent_by : Nodes → Key → Node → Bool
is_sent_by ns s n = is_option_of ns s n.key && is_sent ns n

-- the entry of an element as an option of the select, under that name
abbrev pub entry_by : Page → Key → List ℕ → Node → List Entry
entry_by page s name n =
    if is_sent_by page.tree.nodes s n then text_entry name (value_text page n.key) ∷ [] else []

-- a number of bytes with those of some entries besides
abbrev pub measured : ℕ → List Entry → ℕ
measured total entries = capped (total + entries_length entries)

-- the bytes of what stands before the axis in the name of a coordinate
abbrev pub coordinate_length : List ℕ → ℕ
coordinate_length name = if is_empty_text name then 0 else length name + 1
