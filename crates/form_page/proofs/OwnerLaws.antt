-- What is kept of an element's owner, by its place.
use Rattle.std.proofs.Common.{◌≡◌, ℕ, Bool, true, false, cond, List, [], ◌∷◌, map, get_or, Some, None, refl, ap, ◌∙◌}
use Rattle.std.specs.List.{filter}
use Rattle.form_tree.specs.declared.node.Key.{Key}
use Rattle.form_tree.specs.declared.node.Node.{Node}
use Rattle.form_tree.specs.Disabling.{is_disabled}
use Rattle.form_tree.specs.Ownership.{owner_of}
use Rattle.form_tree.specs.Tree.{Nodes, place_of}
use Rattle.form_owner.specs.declared.answer.Answer.{Answer}
use Rattle.form_owner.specs.declared.owned.Owned.{Owned}
use Rattle.form_owner.specs.Owned.{AreOwned, is_owner_in, owned_keys}
use Rattle.form_owner.specs.Owners.{answer_for, owners_of}
use Rattle.form_page.specs.Invalid.{is_owned_by, owned_by}
use Rattle.form_select.proofs.Laws.{kept_there, placed_node, unplaced}

pub owner_placed : (ns : Nodes) (k : Key) (i : ℕ) (answers : List Answer) (a : Answer) → answers ≡ owners_of ns → Some i ≡ place_of ns k → (get_or answers i a).owner ≡ owner_of ns k
owner_placed ns k i answers a stand placed =
    let met = placed_node ns k i placed in
    let is : get_or answers i a ≡ answer_for ns met.0 = ap (λ (kept : List Answer). get_or kept i a) stand ∙ kept_there (answer_for ns) ns i met.0 a met.1 in
    ap (λ (b : Answer). b.owner) is ∙ ap (owner_of ns) met.3

pub disabled_placed : (ns : Nodes) (k : Key) (i : ℕ) (answers : List Answer) (a : Answer) → answers ≡ owners_of ns → Some i ≡ place_of ns k → (get_or answers i a).disabled ≡ is_disabled ns k
disabled_placed ns k i answers a stand placed =
    let met = placed_node ns k i placed in
    let is : get_or answers i a ≡ answer_for ns met.0 = ap (λ (kept : List Answer). get_or kept i a) stand ∙ kept_there (answer_for ns) ns i met.0 a met.1 in
    ap (λ (b : Answer). b.disabled) is ∙ ap (is_disabled ns) met.3

pub owner_unplaced : (ns : Nodes) (k : Key) → None ≡ place_of ns k → None ≡ owner_of ns k
owner_unplaced ns k none = rw (unplaced ns k none) refl

pub disabled_unplaced : (ns : Nodes) (k : Key) → None ≡ place_of ns k → false ≡ is_disabled ns k
disabled_unplaced ns k none = rw (unplaced ns k none) refl

-- what is kept for a form are the elements that it owns
pub kept_owned : (ns : Nodes) (owned : Owned) (form : Key) → AreOwned owned (owners_of ns) → owned_keys owned form ≡ owned_by ns form
kept_owned ns owned form are = are form ∙ go ns
  where
    go : (xs : Nodes) → map (λ (a : Answer). a.key) (filter (is_owner_in form) (map (answer_for ns) xs)) ≡ map (λ (n : Node). n.key) (filter (is_owned_by ns form) xs)
    go [] = refl
    go (x ∷ xs) = one (go xs) (is_owned_by ns form x)
      where
        one : map (λ (a : Answer). a.key) (filter (is_owner_in form) (map (answer_for ns) xs)) ≡ map (λ (n : Node). n.key) (filter (is_owned_by ns form) xs) → (b : Bool)
            → map (λ (a : Answer). a.key) (cond b (answer_for ns x ∷ filter (is_owner_in form) (map (answer_for ns) xs)) (filter (is_owner_in form) (map (answer_for ns) xs))) ≡ map (λ (n : Node). n.key) (cond b (x ∷ filter (is_owned_by ns form) xs) (filter (is_owned_by ns form) xs))
        one more true = ap (λ (ks : List Key). x.key ∷ ks) more
        one more false = more
