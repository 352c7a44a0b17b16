-- What each form owns, by what is kept of the elements of a page.
use Rattle.std.specs.Prelude.{◌≡◌, Bool, false, List, [], map, filter}
use Rattle.std.specs.BTreeMap.{get}
use Rattle.std.specs.Option.{option_map_or}
use Rattle.std.specs.Ordering.{nat_cmp}
use Rattle.form_tree.specs.declared.node.Key.{Key}
use Rattle.form_tree.specs.Elements.{same_key}
use Rattle.form_owner.specs.declared.answer.Answer.{Answer}
use Rattle.form_owner.specs.declared.owned.Owned.{Owned}

-- the form owns the element of the answer
abbrev pub is_owner_in : Key → Answer → Bool
is_owner_in form answer = option_map_or (same_key form) answer.owner false

-- the keys that are kept for a form
abbrev pub owned_keys : Owned → Key → List Key
owned_keys owned form = option_map_or (λ keys. keys.items) (get nat_cmp owned.lists form.0) []

-- they are those of the elements that it owns, in tree order
abbrev pub AreOwned : Owned → List Answer → Type 0
AreOwned owned answers =
    (form : Key) → owned_keys owned form ≡ map (λ answer. answer.key) (filter (is_owner_in form) answers)
