-- Which elements come to the group of a radio button, while an act is made (HTML, "Radio Button
-- state").
use Rattle.std.specs.Prelude.{◌≡◌, ◌&&◌, ◌++◌, not, Bool, false, List, [], map, None, if◌then◌else◌}
use Rattle.std.specs.BTreeMap.{get}
use Rattle.std.specs.Ordering.{nat_cmp}
use Rattle.form_tree.specs.declared.node.Key.{Key}
use Rattle.form_tree.specs.Elements.{is_among, is_empty_text, same_key}
use Rattle.form_tree.specs.Ownership.{owner_of}
use Rattle.form_tree.specs.RadioGroup.{name_of, share_group}
use Rattle.form_tree.specs.Tree.{Nodes}
use Rattle.form_owner.specs.declared.moves.Move.{Move}
use Rattle.form_page.specs.Members.{radios_of}
use Rattle.form_drafts.specs.Drafts.{AreLikeBut, Draft, Moved}

-- it is in the group of the first, and another element
abbrev pub is_other : Nodes → Key → Key → Bool
is_other ns k j = share_group ns k j && not (same_key k j)

-- the keys are those of the others in its group, in any order
abbrev pub AreOthers : Nodes → Key → List Key → Type 0
AreOthers ns k others = (j : Key) → is_among others j ≡ is_other ns k j

-- only elements of these keys have come to another owner
abbrev pub NoneMovedBut : Moved → List Key → Type 0
NoneMovedBut moved ks = (k : Key) → is_among ks k ≡ false → get nat_cmp moved k.0 ≡ None

-- the elements whose attributes have changed, and those that moved
abbrev pub IsJoined : Draft → List Move → List Key → Type 0
IsJoined draft moves ks =
    (renamed : List Key) × AreLikeBut draft.nodes draft.page.tree.nodes renamed × (ks ≡ renamed ++ map (λ m. m.key) moves)

-- the radio buttons of the page that have the owner and the name that an element has so far
abbrev pub named_alike : Draft → Key → List Key
named_alike draft k =
    if is_empty_text (name_of draft.nodes k) then []
    else radios_of draft.page.tree.nodes (owner_of draft.nodes k) (name_of draft.nodes k)
