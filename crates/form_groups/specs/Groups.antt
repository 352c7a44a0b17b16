-- Radio button groups, each with its members and their marks (HTML, "Radio Button state").
use Rattle.std.specs.Prelude.{◌≡◌, ℕ, ◌<◌, ◌≤◌, ◌==◌, ◌&&◌, not, Bool, false, List, [], ◌∷◌, ◌++◌, length, map, filter, find, flat_map, Option, IfSome, if◌then◌else◌}
use Rattle.std.specs.List.{list_any}
use Rattle.std.specs.Option.{option_map, option_map_or}
use Rattle.std.specs.Str.{bytes_eq}
use Rattle.form_tree.specs.declared.node.Key.{Key}
use Rattle.form_tree.specs.declared.node.Node.{Node}
use Rattle.form_tree.specs.Elements.{same_key, same_owner}
use Rattle.form_tree.specs.RadioGroup.{is_checked, is_required}
use Rattle.form_groups.specs.declared.group.Member.{Member}

-- ---- what was entered

-- a member with the group that it was entered into: the group's form owner, or none, and its name
pub record Entry : Type 0 where
  pub owner : Option Key
  pub name : List ℕ
  pub member : Member

abbrev pub Entries : Type 0
Entries = List Entry

-- An owner and a name name a group: the owner, if there is one, has a number from 1, and the name
-- is not empty.
abbrev pub IsGroup : Option Key → List ℕ → Type 0
IsGroup owner name = IfSome owner (λ k. 1 ≤ k.0) × (0 < length name)

-- both name the same group
abbrev pub same_group : Option Key → List ℕ → Option Key → List ℕ → Bool
same_group owner name o n = same_owner owner o && bytes_eq name n

-- the entry is of that group
abbrev pub is_of : Option Key → List ℕ → Entry → Bool
is_of owner name e = same_group owner name e.owner e.name

-- the members of a group, in order of entering
abbrev pub group_of : Entries → Option Key → List ℕ → List Member
group_of es owner name = map (λ e. e.member) (filter (is_of owner name) es)

-- ---- a list of members

-- the member has this key
abbrev pub has_key : Key → Member → Bool
has_key k m = same_key k m.key

-- the keys of members
abbrev pub keys_of : List Member → List Key
keys_of ms = map (λ m. m.key) ms

-- the group lacks a required choice: a member is required, and none is checked
abbrev pub is_missing : List Member → Bool
is_missing ms = list_any (λ m. m.required) ms && not (list_any (λ m. m.checked) ms)

-- the first checked member
abbrev pub chosen_of : List Member → Option Key
chosen_of ms = option_map (λ m. m.key) (find (λ m. m.checked) ms)

-- with one more, as the last
abbrev pub entered : Member → List Member → List Member
entered m ms = ms ++ m ∷ []

-- without that of the key
abbrev pub without : Key → List Member → List Member
without k ms = filter (λ m. not (has_key k m)) ms

-- a member with other marks, if it has the key
abbrev pub marked_if : Key → Bool → Bool → Member → Member
marked_if k required checked m =
    if has_key k m then record { key = m.key; required = required; checked = checked } else m

-- with other marks for that of the key
abbrev pub marked : Key → Bool → Bool → List Member → List Member
marked k required checked ms = map (marked_if k required checked) ms

-- ---- changes

-- what becomes of the members of a group
abbrev pub Change : Type 0
Change = List Member → List Member

-- the members of one group change, and every other group stays
pub record ChangesGroup (old new : Entries) (owner : Option Key) (name : List ℕ) (change : Change) : Type 0 where
  pub this : group_of new owner name ≡ change (group_of old owner name)
  pub others : (o : Option Key) (n : List ℕ) → same_group owner name o n ≡ false
      → group_of new o n ≡ group_of old o n

-- ---- members of a tree

-- a radio button as a member, with the marks that it has in the tree
abbrev pub member_of : Node → Member
member_of n = record { key = n.key; required = is_required n; checked = is_checked n }

-- ---- the groups behind the entries

-- a group as it is kept
pub record Group : Type 0 where
  pub owner : Option Key
  pub name : List ℕ
  pub members : List Member

-- the group goes by that owner and that name
abbrev pub is_named : Option Key → List ℕ → Group → Bool
is_named owner name g = same_group owner name g.owner g.name

-- all members left
abbrev pub has_no_member : Group → Bool
has_no_member g = length g.members == 0

-- the members of a group that may be there
abbrev pub members_or_none : Option Group → List Member
members_or_none g = option_map_or (λ h. h.members) g []

-- the entries of a group
abbrev pub entries_of : Group → Entries
entries_of g = map (λ m. record { owner = g.owner; name = g.name; member = m }) g.members

-- the entries of all groups
abbrev pub all_entries : List Group → Entries
all_entries gs = flat_map entries_of gs

-- no two are the same group
abbrev pub AreApart : List Group → Type 0
AreApart [] = Unit {0}
AreApart (g ∷ gs) = (list_any (is_named g.owner g.name) gs ≡ false) × AreApart gs
