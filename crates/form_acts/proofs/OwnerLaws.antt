-- Changes of attributes on which no owner and no radio button group depends, and what moves where an
-- owner does.
use Rattle.std.proofs.Common.{◌≡◌, ℕ, Bool, true, false, not, cond, List, [], ◌∷◌, map, Option, Some, None, IsSome, is_some, refl, sym, ap, ◌∙◌, subst, codes}
use Rattle.std.specs.List.{filter}
use Rattle.std.specs.Str.{bytes_eq}
use Rattle.std.proofs.lemmas.Bool.{cond_both}
use Rattle.std.proofs.lemmas.Slice.Eq.{bytes_eq-Decides}
use Rattle.form_types.specs.declared.kind.Kind.{Kind}
use Rattle.form_tree.proofs.Laws.{KeepsOwners, attr_other, owner_image, same_key-refl, share_group_image}
use Rattle.form_tree.specs.declared.node.Key.{Key}
use Rattle.form_tree.specs.declared.node.Node.{Node}
use Rattle.form_tree.specs.Attributes.{set_attr, with_attr}
use Rattle.form_tree.specs.Elements.{same_owner}
use Rattle.form_tree.specs.Ownership.{owner_of}
use Rattle.form_tree.specs.Tree.{Nodes, at_key, attr_in, is_key, place_of, with_node}
use Rattle.form_owner.specs.Owners.{is_moved, move_of, moves_between, moves_of}
use Rattle.form_select.proofs.Laws.{unplaced}
use Rattle.form_page.specs.Page.{Page}
use Rattle.form_changes.specs.declared.role.Role.{Role}
use Rattle.form_changes.specs.declared.role.Role.TheVariants as roles
use Rattle.form_changes.specs.Changing.{changed_attr, follows_checked, role_of, with_checked, with_kind}
use Rattle.form_drafts.proofs.DraftLaws.{none_changed}
use Rattle.form_drafts.specs.Drafts.{Draft, HaveGroupsOf, HaveOwnersOf, draft_of}
use Rattle.form_acts.proofs.TypeLaws.{kind_owners}

-- a name of one role is no word of another
role_other : (name word : List ℕ) (role : Role) → role_of name ≡ role → (role_of word ≡ role → ⊥) → bytes_eq name word ≡ false
role_other name word role is differs = go (bytes_eq name word) refl
  where
    go : (b : Bool) → bytes_eq name word ≡ b → b ≡ false
    go false e = refl
    go true e = absurd (differs (ap role_of (sym ((bytes_eq-Decides name word).0 e)) ∙ is))

-- ---- owners

attr_owners : (name : List ℕ) (value : Option (List ℕ)) → bytes_eq name (codes "form") ≡ false → bytes_eq name (codes "id") ≡ false → KeepsOwners (set_attr name value)
attr_owners name value form id = record {
  key = λ n. refl;
  parent = λ n. refl;
  tag = λ n. refl;
  form = λ n. attr_other name (codes "form") value form n.attrs;
  id = λ n. attr_other name (codes "id") value id n.attrs;
}

either_owners : (test : Node → Bool) (f g : Node → Node) → KeepsOwners f → KeepsOwners g → KeepsOwners (λ n. cond (test n) (f n) (g n))
either_owners test f g first second = record {
  key = λ n. cond_both (test n) (f n) (g n) (λ m. m.key ≡ n.key) (λ _. first.key n) (λ _. second.key n);
  parent = λ n. cond_both (test n) (f n) (g n) (λ m. m.parent ≡ n.parent) (λ _. first.parent n) (λ _. second.parent n);
  tag = λ n. cond_both (test n) (f n) (g n) (λ m. m.tag ≡ n.tag) (λ _. first.tag n) (λ _. second.tag n);
  form = λ n. cond_both (test n) (f n) (g n) (λ m. attr_in m.attrs (codes "form") ≡ attr_in n.attrs (codes "form")) (λ _. first.form n) (λ _. second.form n);
  id = λ n. cond_both (test n) (f n) (g n) (λ m. attr_in m.attrs (codes "id") ≡ attr_in n.attrs (codes "id")) (λ _. first.id n) (λ _. second.id n);
}

own_owners : KeepsOwners (λ n. n)
own_owners = record { key = λ n. refl; parent = λ n. refl; tag = λ n. refl; form = λ n. refl; id = λ n. refl }

-- a change of one element that keeps what owners depend on
owners_with : (f : Node → Node) → KeepsOwners f → (ns : Nodes) (k : Key) → HaveOwnersOf (with_node ns k f) ns
owners_with f keeps ns k j = owner_image (λ n. cond (is_key k n) (f n) n) (either_owners (is_key k) f (λ n. n) keeps own_owners) ns j

module _ (page : Page) (draft : Draft) (k : Key) (name : List ℕ) (value : Option (List ℕ)) where
  -- another name
  pub named_owners : role_of name ≡ roles.Name → draft ≡ draft_of page (with_attr page.tree.nodes k name value) → HaveOwnersOf draft.nodes draft.page.tree.nodes
  named_owners role is =
      subst (λ (d : Draft). HaveOwnersOf d.nodes d.page.tree.nodes) (sym is)
      (owners_with (set_attr name value) (attr_owners name value (role_other name (codes "form") roles.Name role (λ e. absurd (cc))) (role_other name (codes "id") roles.Name role (λ e. absurd (cc)))) page.tree.nodes k)

  -- another type
  pub typed_owners : role_of name ≡ roles.Type → (from to : Kind) → draft ≡ draft_of page (with_node (with_attr page.tree.nodes k name value) k (with_kind from to)) → HaveOwnersOf draft.nodes draft.page.tree.nodes
  typed_owners role from to is =
      subst (λ (d : Draft). HaveOwnersOf d.nodes d.page.tree.nodes) (sym is)
      (λ j. owners_with (with_kind from to) (kind_owners from to) (with_attr page.tree.nodes k name value) k j
      ∙ owners_with (set_attr name value) (attr_owners name value (role_other name (codes "form") roles.Type role (λ e. absurd (cc))) (role_other name (codes "id") roles.Type role (λ e. absurd (cc)))) page.tree.nodes k j)

  -- ---- groups

  abbrev checks : Node → Node
  checks n = with_checked (is_some value) (set_attr name value n)

  -- `checked` set or taken away
  pub checked_groups : role_of name ≡ roles.Checked → draft ≡ draft_of page (with_node page.tree.nodes k (changed_attr roles.Checked name value)) → HaveGroupsOf draft.nodes draft.page.tree.nodes
  checked_groups role is =
      subst (λ (d : Draft). HaveGroupsOf d.nodes d.page.tree.nodes) (sym is)
      (share_group_image (λ n. cond (is_key k n) (changed_attr roles.Checked name value n) n)
      (either_owners (is_key k) (changed_attr roles.Checked name value) (λ n. n) (either_owners (follows_checked (is_some value)) checks (set_attr name value) (record { key = set.key; parent = set.parent; tag = set.tag; form = set.form; id = set.id }) set) own_owners)
      (kept (codes "type") (apart (codes "type") (λ e. absurd (cc)))) (kept (codes "name") (apart (codes "name") (λ e. absurd (cc)))) page.tree.nodes)
    where
      apart : (word : List ℕ) → (role_of word ≡ roles.Checked → ⊥) → bytes_eq name word ≡ false
      apart word differs = role_other name word roles.Checked role differs

      set : KeepsOwners (set_attr name value)
      set = attr_owners name value (apart (codes "form") (λ e. absurd (cc))) (apart (codes "id") (λ e. absurd (cc)))

      kept : (word : List ℕ) → bytes_eq name word ≡ false → (n : Node) → attr_in (cond (is_key k n) (changed_attr roles.Checked name value n) n).attrs word ≡ attr_in n.attrs word
      kept word other n =
          cond_both (is_key k n) (changed_attr roles.Checked name value n) n (λ (m : Node). attr_in m.attrs word ≡ attr_in n.attrs word)
          (λ _. cond_both (follows_checked (is_some value) n) (checks n) (set_attr name value n) (λ (m : Node). attr_in m.attrs word ≡ attr_in n.attrs word) (λ _. attr_other name word value other n.attrs) (λ _. attr_other name word value other n.attrs)) (λ _. refl)

-- ---- what moves

owner_itself : (o : Option Key) → same_owner o o ≡ true
owner_itself None = refl
owner_itself (Some k) = same_key-refl k

none_between : (ns xs : Nodes) → map (move_of ns ns) (filter (is_moved ns ns) xs) ≡ []
none_between ns [] = refl
none_between ns (n ∷ xs) = ap (λ (b : Bool). map (move_of ns ns) (cond (not b) (n ∷ filter (is_moved ns ns) xs) (filter (is_moved ns ns) xs))) (owner_itself (owner_of ns n.key)) ∙ none_between ns xs

-- nothing moves where there is no element
pub nothing_moves : (ns : Nodes) (k : Key) (name : List ℕ) (value : Option (List ℕ)) → at_key ns k ≡ None → [] ≡ moves_of ns k name value
nothing_moves ns k name value none = sym (ap (moves_between ns) (none_changed ns k (set_attr name value) none) ∙ none_between ns ns)

-- whether there is an element of a key
pub nowhere : (ns : Nodes) (k : Key) → is_some (place_of ns k) ≡ false → at_key ns k ≡ None
nowhere ns k none = unplaced ns k (go (place_of ns k) none)
  where
    go : (o : Option ℕ) → is_some o ≡ false → None ≡ o
    go None e = refl
    go (Some i) e = absurd (cc)

pub somewhere : (o : Option ℕ) → is_some o ≡ true → IsSome o
somewhere None e = absurd (cc)
somewhere (Some i) e = refl
