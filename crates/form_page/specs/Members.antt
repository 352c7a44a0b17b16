-- The radio buttons of a page as members of groups.
use Rattle.std.specs.Prelude.{◌≡◌, ℕ, ◌&&◌, Bool, List, map, filter, Option}
use Rattle.form_tree.specs.declared.node.Key.{Key}
use Rattle.form_tree.specs.declared.node.Node.{Node}
use Rattle.form_tree.specs.Ownership.{owner_of}
use Rattle.form_tree.specs.RadioGroup.{is_radio, name_of}
use Rattle.form_tree.specs.Tree.{Nodes}
use Rattle.form_judge.specs.declared.flags.Facts.{Facts}
use Rattle.form_judge.specs.Flags.{facts_of}
use Rattle.form_groups.specs.declared.group.Member.{Member}
use Rattle.form_groups.specs.Groups.{Entries, IsGroup, group_of, member_of, same_group}

-- a radio button of the page `ns` with that owner, or like it none, and that name
abbrev pub is_in_group : Nodes → Option Key → List ℕ → Node → Bool
is_in_group ns owner name n = is_radio n && same_group owner name (owner_of ns n.key) (name_of ns n.key)

-- those among some elements, with their marks
abbrev pub members_among : Nodes → Option Key → List ℕ → Nodes → List Member
members_among ns owner name elements = map member_of (filter (is_in_group ns owner name) elements)

-- the radio buttons of an owner and a name, in tree order
abbrev pub radios_of : Nodes → Option Key → List ℕ → List Key
radios_of ns owner name = map (λ n. n.key) (filter (is_in_group ns owner name) ns)

-- what was entered are the radio buttons among these elements, each in its group
abbrev pub AreGroupsAmong : Nodes → Entries → Nodes → Type 0
AreGroupsAmong ns entries elements = (owner : Option Key) (name : List ℕ) → IsGroup owner name
    → group_of entries owner name ≡ members_among ns owner name elements

-- what the page says of an element for its judgement
abbrev pub facts_at : Nodes → Node → Facts
facts_at ns n = facts_of ns n.key
