-- The keys whose sights differ place by place are those whose views differ.
use Rattle.std.proofs.Common.{◌≡◌, ℕ, suc, ◌<◌, Bool, true, false, not, cond, List, [], ◌∷◌, ◌++◌, length, map, get_or, Option, Some, refl, sym, ap, ◌∙◌, arith}
use Rattle.std.specs.List.{filter}
use Rattle.std.specs.Option.{option_and_then, option_map}
use Rattle.form_tree.specs.declared.node.Key.{Key}
use Rattle.form_tree.specs.declared.node.Node.{Node}
use Rattle.form_tree.specs.Tree.{Nodes, IsTree, at_key}
use Rattle.form_page.specs.Changes.{changed_keys, same_sights}
use Rattle.form_page.specs.declared.sight.Sight.{Sight}
use Rattle.form_page.specs.Page.{Page, names_of}
use Rattle.form_page.specs.Views.{changes, is_changed, sight_if, view_by, view_of}
use Rattle.form_page.proofs.EditLaws.{frame, keys_same}
use Rattle.form_page.proofs.MemberLaws.{all_own}

abbrev keys : Nodes → List Key
keys ns = map (λ n. n.key) ns

-- each of these elements is found by its own key
abbrev AreOwn : Nodes → Nodes → Type 0
AreOwn ns xs = (i : ℕ) (d : Node) → i < length xs → at_key ns (get_or xs i d).key ≡ Some (get_or xs i d)

heads : (x y : Key) (xs ys : List Key) → x ∷ xs ≡ y ∷ ys → (x ≡ y) × (xs ≡ ys)
heads x y xs ys e = (grind (arith, e), grind (arith, e))

module _ (before after : Page) where
  seen_before : (x : Node) → at_key before.tree.nodes x.key ≡ Some x → view_of before x.key ≡ option_map view_by (sight_if (names_of before.files) before.tree.nodes x)
  seen_before x own = ap (λ (o : Option Node). option_map view_by (option_and_then (sight_if (names_of before.files) before.tree.nodes) o)) own

  seen_after : (y : Node) → at_key after.tree.nodes y.key ≡ Some y → view_of after y.key ≡ option_map view_by (sight_if (names_of after.files) after.tree.nodes y)
  seen_after y own = ap (λ (o : Option Node). option_map view_by (option_and_then (sight_if (names_of after.files) after.tree.nodes) o)) own

  by_place : (xs ys : Nodes) → keys xs ≡ keys ys → AreOwn before.tree.nodes xs → AreOwn after.tree.nodes ys
      → changed_keys ys (map (sight_if (names_of before.files) before.tree.nodes) xs) (map (sight_if (names_of after.files) after.tree.nodes) ys) ≡ filter (is_changed before after) (keys ys)
  by_place [] [] same own_x own_y = refl
  by_place [] (y ∷ ys) same own_x own_y = absurd (cc)
  by_place (x ∷ xs) [] same own_x own_y = absurd (cc)
  by_place (x ∷ xs) (y ∷ ys) same own_x own_y =
      let parts = heads x.key y.key (keys xs) (keys ys) same in
      let rest = by_place xs ys parts.1 (λ i d lt. own_x (suc i) d (omega arith)) (λ i d lt. own_y (suc i) d (omega arith)) in
      let one : view_of before y.key ≡ option_map view_by (sight_if (names_of before.files) before.tree.nodes x) = ap (view_of before) (sym parts.0) ∙ seen_before x (own_x 0 x (omega arith)) in
      let two = seen_after y (own_y 0 y (omega arith)) in
      rw (one, two, rest) (go (same_sights (sight_if (names_of before.files) before.tree.nodes x) (sight_if (names_of after.files) after.tree.nodes y)))
    where
      go : (b : Bool) → cond b [] (y.key ∷ []) ++ filter (is_changed before after) (keys ys) ≡ cond (not b) (y.key ∷ filter (is_changed before after) (keys ys)) (filter (is_changed before after) (keys ys))
      go true = refl
      go false = refl

  pub changes_found : IsTree before.tree.nodes → IsTree after.tree.nodes → keys before.tree.nodes ≡ keys after.tree.nodes
      → changed_keys after.tree.nodes (map (sight_if (names_of before.files) before.tree.nodes) before.tree.nodes) (map (sight_if (names_of after.files) after.tree.nodes) after.tree.nodes) ≡ changes before after
  changes_found tree_before tree_after same = by_place before.tree.nodes after.tree.nodes same (all_own before.tree.nodes tree_before) (all_own after.tree.nodes tree_after)

pub keys_found : (before after : Page) (nodes : Nodes) (seen_before seen_after : List (Option Sight)) → IsTree before.tree.nodes → IsTree after.tree.nodes → map frame after.tree.nodes ≡ map frame before.tree.nodes → nodes ≡ after.tree.nodes
    → seen_before ≡ map (sight_if (names_of before.files) before.tree.nodes) before.tree.nodes → seen_after ≡ map (sight_if (names_of after.files) after.tree.nodes) after.tree.nodes
    → changed_keys nodes seen_before seen_after ≡ changes before after
keys_found before after nodes seen_before seen_after tree_before tree_after same are is_before is_after =
    ap (λ (ns : Nodes). changed_keys ns seen_before seen_after) are
    ∙ ap (λ (s : List (Option Sight)). changed_keys after.tree.nodes s seen_after) is_before
    ∙ ap (λ (s : List (Option Sight)). changed_keys after.tree.nodes (map (sight_if (names_of before.files) before.tree.nodes) before.tree.nodes) s) is_after
    ∙ changes_found before after tree_before tree_after (keys_same before.tree.nodes after.tree.nodes same)
