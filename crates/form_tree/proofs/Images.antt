-- Changes of nodes that keep what the elements are, and what stays under them.
use Rattle.std.proofs.Common.{◌≡◌, ℕ, Bool, true, false, not, ◌&&◌, cond, List, [], ◌∷◌, map, Option, Some, None, refl, ap, ◌∙◌, codes}
use Rattle.std.specs.Prelude.{reverse}
use Rattle.std.specs.List.{find}
use Rattle.std.specs.Option.{option_map, option_and_then, option_map_or}
use Rattle.std.proofs.lemmas.List.{reverse-append, map-append}
use Rattle.form_tree.specs.declared.node.Key.{Key}
use Rattle.form_tree.specs.declared.node.Node.{Node}
use Rattle.form_tree.specs.Tree.{Nodes, is_key, at_key, attr_of, attr_in, parent_of}
use Rattle.form_tree.specs.Elements.{has_attr, is_form, is_input, is_listed, is_optgroup, is_option, is_select, passes}
use Rattle.form_tree.specs.Ownership.{above, ancestors, has_id, key_if_form, form_with_id, nearest_form, owner_by, owner_of}
use Rattle.form_tree.specs.RadioGroup.{is_radio, share_group}
use Rattle.form_tree.specs.Selects.{is_multiple, is_option_of, select_above, select_of, share_select}

-- key, parent, tag and attributes stay
pub record KeepsElements (f : Node → Node) : Type 0 where
  pub key : (n : Node) → (f n).key ≡ n.key
  pub parent : (n : Node) → (f n).parent ≡ n.parent
  pub tag : (n : Node) → (f n).tag ≡ n.tag
  pub attrs : (n : Node) → (f n).attrs ≡ n.attrs

-- what a search finds in the image, where the test does not see the change
pub find-map : {X : Type 0} (p : X → Bool) (f : X → X) → ((x : X) → p (f x) ≡ p x) → (xs : List X) → find p (map f xs) ≡ option_map f (find p xs)
find-map p f same [] = refl
find-map {X} p f same (x ∷ xs) = rw (same x, find-map p f same xs) (both (p x) (find p xs))
  where
    both : (b : Bool) (o : Option X) → cond b (Some (f x)) (option_map f o) ≡ option_map f (cond b (Some x) o)
    both true o = refl
    both false o = refl

pub reverse-map : {X : Type 0} (f : X → X) (xs : List X) → reverse (map f xs) ≡ map f (reverse xs)
reverse-map f [] = refl
reverse-map f (x ∷ xs) =
    rw (reverse-append (f x ∷ []) (map f xs), reverse-append (x ∷ []) xs, map-append f (reverse xs) (x ∷ []), reverse-map f xs) refl

module _ (f : Node → Node) (keys : (n : Node) → (f n).key ≡ n.key) (t : Nodes) (k : Key) where
  pub at_key_image : at_key (map f t) k ≡ option_map f (at_key t k)
  at_key_image = find-map (is_key k) f (λ n. rw (keys n) refl) t

  -- a test that does not see the change
  pub passes_image : (test : Node → Bool) → ((n : Node) → test (f n) ≡ test n) → passes test (map f t) k ≡ passes test t k
  passes_image test same = rw at_key_image (go (at_key t k))
    where
      go : (o : Option Node) → option_map_or test (option_map f o) false ≡ option_map_or test o false
      go None = refl
      go (Some n) = same n

  pub parent_image : ((n : Node) → (f n).parent ≡ n.parent) → parent_of (map f t) k ≡ parent_of t k
  parent_image parents = rw at_key_image (go (at_key t k))
    where
      go : (o : Option Node) → option_and_then (λ (n : Node). n.parent) (option_map f o) ≡ option_and_then (λ (n : Node). n.parent) o
      go None = refl
      go (Some n) = parents n

  pub attr_image : (name : List ℕ) → ((n : Node) → attr_in (f n).attrs name ≡ attr_in n.attrs name) → attr_of (map f t) k name ≡ attr_of t k name
  attr_image name same = rw at_key_image (go (at_key t k))
    where
      go : (o : Option Node) → option_and_then (λ attrs. attr_in attrs name) (option_map (λ (n : Node). n.attrs) (option_map f o)) ≡ option_and_then (λ attrs. attr_in attrs name) (option_map (λ (n : Node). n.attrs) o)
      go None = refl
      go (Some n) = same n

-- key, parent, tag and the attributes that say the owners
pub record KeepsOwners (f : Node → Node) : Type 0 where
  pub key : (n : Node) → (f n).key ≡ n.key
  pub parent : (n : Node) → (f n).parent ≡ n.parent
  pub tag : (n : Node) → (f n).tag ≡ n.tag
  pub form : (n : Node) → attr_in (f n).attrs (codes "form") ≡ attr_in n.attrs (codes "form")
  pub id : (n : Node) → attr_in (f n).attrs (codes "id") ≡ attr_in n.attrs (codes "id")

module _ (f : Node → Node) (keeps : KeepsOwners f) where
  pub above_image : (t : Nodes) (up : Option Key) → above (map f t) up ≡ map f (above t up)
  above_image [] up = refl
  above_image (n ∷ t) None = refl
  above_image (n ∷ t) (Some k) =
      let same : is_key k (f n) ≡ is_key k n = rw (keeps.key n) refl in
      let up : above (map f t) (f n).parent ≡ map f (above t n.parent) = ap (above (map f t)) (keeps.parent n) ∙ above_image t n.parent in
      rw (same, up, above_image t (Some k)) (both (is_key k n))
    where
      both : (b : Bool) → cond b (f n ∷ map f (above t n.parent)) (map f (above t (Some k))) ≡ map f (cond b (n ∷ above t n.parent) (above t (Some k)))
      both true = refl
      both false = refl

  nearest_form_image : (t : Nodes) (k : Key) → nearest_form (map f t) k ≡ nearest_form t k
  nearest_form_image t k =
      rw (parent_image f keeps.key t k keeps.parent, reverse-map f t, above_image (reverse t) (parent_of t k), find-map is_form f (λ n. rw (keeps.tag n) refl) (ancestors t k))
      (go (find is_form (ancestors t k)))
    where
      go : (o : Option Node) → option_map (λ (n : Node). n.key) (option_map f o) ≡ option_map (λ (n : Node). n.key) o
      go None = refl
      go (Some n) = ap (λ (k : Key). Some k) (keeps.key n)

  form_with_id_image : (t : Nodes) (text : List ℕ) → form_with_id (map f t) text ≡ form_with_id t text
  form_with_id_image t text = rw (find-map (has_id text) f (λ n. rw (keeps.id n) refl) t) (go (find (has_id text) t))
    where
      go : (o : Option Node) → option_and_then key_if_form (option_map f o) ≡ option_and_then key_if_form o
      go None = refl
      go (Some n) = rw (keeps.tag n, keeps.key n) refl

  -- no owner changes
  pub owner_image : (t : Nodes) (k : Key) → owner_of (map f t) k ≡ owner_of t k
  owner_image t k = rw (attr_image f keeps.key t k (codes "form") keeps.form, passes_image f keeps.key t k is_listed (λ n. rw (keeps.tag n) refl)) (ap (λ (o : Option Key). cond (passes is_listed t k) o None) (go (attr_of t k (codes "form"))))
    where
      go : (o : Option (List ℕ)) → owner_by (map f t) k o ≡ owner_by t k o
      go (Some text) = form_with_id_image t text
      go None = nearest_form_image t k

-- no group changes either where types and names stay
pub share_group_image : (f : Node → Node) → KeepsOwners f → ((n : Node) → attr_in (f n).attrs (codes "type") ≡ attr_in n.attrs (codes "type")) → ((n : Node) → attr_in (f n).attrs (codes "name") ≡ attr_in n.attrs (codes "name")) → (t : Nodes) (j k : Key) → share_group (map f t) j k ≡ share_group t j k
share_group_image f keeps types names t j k =
    rw (passes_image f keeps.key t j is_radio (λ n. rw (keeps.tag n, types n) refl), passes_image f keeps.key t k is_radio (λ n. rw (keeps.tag n, types n) refl), owner_image f keeps t j, owner_image f keeps t k, attr_image f keeps.key t j (codes "name") names, attr_image f keeps.key t k (codes "name") names) refl

module _ (f : Node → Node) (keeps : KeepsElements f) where
  pub at_key_map : (t : Nodes) (k : Key) → at_key (map f t) k ≡ option_map f (at_key t k)
  at_key_map t k = at_key_image f keeps.key t k

  pub passes_map : (test : Node → Bool) → ((n : Node) → test (f n) ≡ test n) → (t : Nodes) (k : Key) → passes test (map f t) k ≡ passes test t k
  passes_map test same t k = passes_image f keeps.key t k test same

  pub parent_of_map : (t : Nodes) (k : Key) → parent_of (map f t) k ≡ parent_of t k
  parent_of_map t k = parent_image f keeps.key t k keeps.parent

  pub attr_of_map : (t : Nodes) (k : Key) (name : List ℕ) → attr_of (map f t) k name ≡ attr_of t k name
  attr_of_map t k name = attr_image f keeps.key t k name (λ n. rw (keeps.attrs n) refl)

  pub owner_of_map : (t : Nodes) (k : Key) → owner_of (map f t) k ≡ owner_of t k
  owner_of_map t k = owner_image f (record { key = keeps.key; parent = keeps.parent; tag = keeps.tag; form = λ n. rw (keeps.attrs n) refl; id = λ n. rw (keeps.attrs n) refl }) t k

  pub share_group_map : (t : Nodes) (j k : Key) → share_group (map f t) j k ≡ share_group t j k
  share_group_map t j k = share_group_image f (record { key = keeps.key; parent = keeps.parent; tag = keeps.tag; form = λ n. rw (keeps.attrs n) refl; id = λ n. rw (keeps.attrs n) refl }) (λ n. rw (keeps.attrs n) refl) (λ n. rw (keeps.attrs n) refl) t j k

  -- ---- selects

  pub is_multiple_map : (t : Nodes) (s : Key) → is_multiple (map f t) s ≡ is_multiple t s
  is_multiple_map t s = passes_map (has_attr (codes "multiple")) (λ n. rw (keeps.attrs n) refl) t s

-- a select and its options depend on keys, parents and tags, and on `multiple`
module _ (f : Node → Node) (keys : (n : Node) → (f n).key ≡ n.key) (parents : (n : Node) → (f n).parent ≡ n.parent) (tags : (n : Node) → (f n).tag ≡ n.tag) (t : Nodes) where
  is_select_image : (k : Key) → passes is_select (map f t) k ≡ passes is_select t k
  is_select_image k = passes_image f keys t k is_select (λ n. rw (tags n) refl)

  select_above_image : (up : Option Key) → select_above (map f t) up ≡ select_above t up
  select_above_image None = refl
  select_above_image (Some up) =
      rw (is_select_image up, passes_image f keys t up is_optgroup (λ n. rw (tags n) refl), parent_image f keys t up parents) (rw (top (parent_of t up)) refl)
    where
      top : (o : Option Key) → option_and_then (λ top. cond (passes is_select (map f t) top) (Some top) None) o ≡ option_and_then (λ top. cond (passes is_select t top) (Some top) None) o
      top None = refl
      top (Some k) = rw (is_select_image k) refl

  pub select_of_image : (k : Key) → select_of (map f t) k ≡ select_of t k
  select_of_image k = rw (passes_image f keys t k is_option (λ n. rw (tags n) refl), parent_image f keys t k parents, select_above_image (parent_of t k)) refl

  pub share_select_image : ((s : Key) → is_multiple (map f t) s ≡ is_multiple t s) → (j k : Key) → share_select (map f t) j k ≡ share_select t j k
  share_select_image multiple j k = rw (select_of_image j) (go (select_of t j))
    where
      go : (o : Option Key) → option_map_or (λ s. is_option_of (map f t) s k && not (is_multiple (map f t) s)) o false ≡ option_map_or (λ s. is_option_of t s k && not (is_multiple t s)) o false
      go None = refl
      go (Some s) = rw (select_of_image k, multiple s) refl

pub share_select_map : (f : Node → Node) → KeepsElements f → (t : Nodes) (j k : Key) → share_select (map f t) j k ≡ share_select t j k
share_select_map f keeps t j k = share_select_image f keeps.key keeps.parent keeps.tag t (is_multiple_map f keeps t) j k

pub is_option_of_map : (f : Node → Node) → KeepsElements f → (t : Nodes) (s k : Key) → is_option_of (map f t) s k ≡ is_option_of t s k
is_option_of_map f keeps t s k = rw (select_of_image f keeps.key keeps.parent keeps.tag t k) refl
