-- The nodes of a page that was just read are a tree, whose keys are 1, 2 and so on.
use Rattle.std.proofs.Common.{◌≡◌, ◌≢◌, ℕ, zero, suc, ◌+◌, ◌-◌, ◌<◌, ◌≤◌, ◌&&◌, List, [], ◌∷◌, ◌++◌, length, map, drop, get_or, Option, Some, None, IsSome, IfSome, cond, refl, sym, ap, ◌∙◌, subst, arith, ltb, leb, eqb}
use Rattle.std.specs.List.{All, AllPairs, enumerate_from, slice_get}
use Rattle.std.specs.Option.{option_and_then, option_map}
use Rattle.std.proofs.lemmas.Bool.Decides.{nat_tests}
use Rattle.std.proofs.lemmas.List.{append_assoc, drop-drop, length-map, length_push}
use Rattle.std.proofs.lemmas.List.Elements.{All-nil, All-cons, All-head, All-tail}
use Rattle.std.proofs.lemmas.List.FromFn.{length-enumerate_from}
use Rattle.std.proofs.lemmas.Option.{slice_get-map, slice_get_within}
use Rattle.form_text.proofs.Laws.{position-cons}
use Rattle.form_tree.specs.declared.node.Key.{Key}
use Rattle.form_tree.specs.declared.node.Node.{Node}
use Rattle.form_tree.specs.declared.node.Raw.{Raw}
use Rattle.form_tree.specs.Index.{IsIndexOf, first_place, indexed}
use Rattle.form_tree.specs.Tree.{Nodes, Shape, AreGiven, IsInTreeOrder, IsTree, IsTreeOfRaws, NamesDiffer, first_key, node_of_raw, nodes_of_raws, place_in, shape_of}

-- the nodes of raws whose first stands at place n
abbrev pub numbered : ℕ → List Raw → Nodes
numbered n raws = map (λ entry. node_of_raw entry.0 entry.1) (enumerate_from n raws)

-- where a key stands among those from n + 1 on
abbrev place_from : ℕ → ℕ → Key → Option ℕ
place_from n count k = cond (ltb n k.0 && leb k.0 (n + count)) (Some (k.0 - n - 1)) None

place_numbered : (n : ℕ) (raws : List Raw) (k : Key) → place_in (shape_of (numbered n raws)) k ≡ place_from n (length raws) k
place_numbered n [] k = grind (arith, nat_tests)
place_numbered n (raw ∷ raws) k =
    let first : Key × Option Key = (first_key n, option_map first_key raw.parent) in
    position-cons (λ (entry : Key × Option Key). eqb k.0 entry.0.0) first (shape_of (numbered (n + 1) raws))
    ∙ ap (λ o. cond (eqb k.0 (n + 1)) (Some 0) (option_map suc o)) (place_numbered (n + 1) raws k)
    ∙ step n (length raws) k.0
  where
    step : (n m k : ℕ) → cond (eqb k (n + 1)) (Some 0) (option_map suc (cond (ltb (n + 1) k && leb k (n + 1 + m)) (Some (k - (n + 1) - 1)) None)) ≡ cond (ltb n k && leb k (n + suc m)) (Some (k - n - 1)) None
    step n m k = grind (arith, nat_tests)

-- a key of the first page stands at the place before its number
pub place_first : (raws : List Raw) (k : Key) → place_in (shape_of (nodes_of_raws raws)) k ≡ first_place (length raws) k
place_first raws k = place_numbered 0 raws k ∙ grind (arith, nat_tests)

-- so the index of the first keys is that of the nodes
pub index_first : (index : List (Option ℕ)) (raws : List Raw) → ((k : Key) → indexed index k ≡ first_place (length raws) k) → IsIndexOf index (shape_of (nodes_of_raws raws))
index_first index raws agrees k = agrees k ∙ sym (place_first raws k)

-- the key of a place
pub place_of_first : (raws : List Raw) (p : ℕ) → p < length raws → place_in (shape_of (nodes_of_raws raws)) (first_key p) ≡ Some p
place_of_first raws p below = place_first raws (first_key p) ∙ grind (arith, nat_tests)

-- a list of nodes keeps what each raw had
names_numbered : (n : ℕ) (raws : List Raw) → All (λ (raw : Raw). NamesDiffer raw.attrs) raws → All (λ (node : Node). NamesDiffer node.attrs) (numbered n raws)
names_numbered n [] all = All-nil (λ (node : Node). NamesDiffer node.attrs)
names_numbered n (raw ∷ raws) all = All-cons (λ (node : Node). NamesDiffer node.attrs) _ _ (All-head (λ (raw : Raw). NamesDiffer raw.attrs) raw raws all)
    (names_numbered (n + 1) raws (All-tail (λ (raw : Raw). NamesDiffer raw.attrs) raw raws all))

-- the parents' places, looked up by their keys, are those of the raws
parents_numbered : (s : Shape) (n : ℕ) (raws : List Raw) → ((i p : ℕ) → slice_get (map (λ (raw : Raw). raw.parent) raws) i ≡ Some (Some p) → place_in s (first_key p) ≡ Some p)
    → map (λ (entry : Key × Option Key). option_and_then (place_in s) entry.1) (shape_of (numbered n raws)) ≡ map (λ (raw : Raw). raw.parent) raws
parents_numbered s n [] there = refl
parents_numbered s n (raw ∷ raws) there = both (up raw.parent (λ p is. there 0 p (ap (λ (o : Option ℕ). Some o) is))) (parents_numbered s (n + 1) raws (λ i p is. there (suc i) p is))
  where
    up : (o : Option ℕ) → ((p : ℕ) → o ≡ Some p → place_in s (first_key p) ≡ Some p) → option_and_then (place_in s) (option_map first_key o) ≡ o
    up None there = refl
    up (Some p) there = there p refl

    both : {X : Type 0} {x y : X} {xs ys : List X} → x ≡ y → xs ≡ ys → x ∷ xs ≡ y ∷ ys
    both e f = cc

-- each parent is there
parents_are_there : (s : Shape) (n : ℕ) (raws : List Raw) → ((i p : ℕ) → slice_get (map (λ (raw : Raw). raw.parent) raws) i ≡ Some (Some p) → place_in s (first_key p) ≡ Some p)
    → All (λ (entry : Key × Option Key). IfSome entry.1 (λ k. IsSome (place_in s k))) (shape_of (numbered n raws))
parents_are_there s n [] there = All-nil (λ (entry : Key × Option Key). IfSome entry.1 (λ k. IsSome (place_in s k)))
parents_are_there s n (raw ∷ raws) there =
    All-cons (λ (entry : Key × Option Key). IfSome entry.1 (λ k. IsSome (place_in s k))) _ _
    (up raw.parent (λ p is. there 0 p (ap (λ (o : Option ℕ). Some o) is)))
    (parents_are_there s (n + 1) raws (λ i p is. there (suc i) p is))
  where
    up : (o : Option ℕ) → ((p : ℕ) → o ≡ Some p → place_in s (first_key p) ≡ Some p) → IfSome (option_map first_key o) (λ k. IsSome (place_in s k))
    up None there = tt
    up (Some p) there = rw (there p refl) refl

-- the keys rise
keys_numbered : (n : ℕ) (raws : List Raw) (i : ℕ) (k : Key) → i < length raws → get_or (map (λ (entry : Key × Option Key). entry.0) (shape_of (numbered n raws))) i k ≡ first_key (n + i)
keys_numbered n [] i k below = absurd (omega arith)
keys_numbered n (raw ∷ raws) zero k below = ap first_key (omega arith)
keys_numbered n (raw ∷ raws) (suc i) k below = keys_numbered (n + 1) raws i k (omega arith) ∙ ap first_key (omega arith)

keys_long : (raws : List Raw) → length (map (λ (entry : Key × Option Key). entry.0) (shape_of (nodes_of_raws raws))) ≡ length raws
keys_long raws = length-map (shape_of (nodes_of_raws raws)) (λ (entry : Key × Option Key). entry.0) ∙ length-map (nodes_of_raws raws) (λ (n : Node). (n.key, n.parent))
    ∙ length-map (enumerate_from 0 raws) (λ (entry : ℕ × Raw). node_of_raw entry.0 entry.1) ∙ length-enumerate_from 0 raws

keys_differ_first : (raws : List Raw) → AllPairs (λ a b. a ≢ b) (map (λ (entry : Key × Option Key). entry.0) (shape_of (nodes_of_raws raws)))
keys_differ_first raws i j d lower below = λ same.
    let in_j : j < length raws = omega (arith, keys_long raws) in
    let one = keys_numbered 0 raws i d (omega arith) in
    let two = keys_numbered 0 raws j d in_j in
    let numbers : 0 + i + 1 ≡ 0 + j + 1 = ap (λ (k : Key). k.0) (sym one ∙ same ∙ two) in
    omega arith

-- the keys are from 1
from_one_numbered : (n : ℕ) (raws : List Raw) → All (λ (entry : Key × Option Key). 1 ≤ entry.0.0) (shape_of (numbered n raws))
from_one_numbered n [] = All-nil (λ (entry : Key × Option Key). 1 ≤ entry.0.0)
from_one_numbered n (raw ∷ raws) = All-cons (λ (entry : Key × Option Key). 1 ≤ entry.0.0) _ _ (omega arith) (from_one_numbered (n + 1) raws)

-- and none is above their number
given_numbered : (n used : ℕ) (raws : List Raw) → n + length raws ≤ used → AreGiven used (shape_of (numbered n raws))
given_numbered n used [] below = All-nil (λ (entry : Key × Option Key). entry.0.0 ≤ used)
given_numbered n used (raw ∷ raws) below = All-cons (λ (entry : Key × Option Key). entry.0.0 ≤ used) _ _ (omega arith) (given_numbered (n + 1) used raws (omega arith))

pub given_first : (raws : List Raw) → AreGiven (length raws) (shape_of (nodes_of_raws raws))
given_first raws = given_numbered 0 (length raws) raws (omega arith)

-- the nodes of raws in tree order are a tree
pub raws_are_tree : (raws : List Raw) → IsTreeOfRaws raws → IsTree (nodes_of_raws raws)
raws_are_tree raws given =
    let there : (i p : ℕ) → slice_get (map (λ (raw : Raw). raw.parent) raws) i ≡ Some (Some p) → place_in (shape_of (nodes_of_raws raws)) (first_key p) ≡ Some p =
    λ i p is.
    let before = given.in_order.before i p is in
    let within = slice_get_within _ i _ is in
    let long = length-map raws (λ (raw : Raw). raw.parent) in
    place_of_first raws p (omega arith) in record {
      shape = record {
        keys_differ = keys_differ_first raws;
        keys_from_one = from_one_numbered 0 raws;
        parents_there = parents_are_there (shape_of (nodes_of_raws raws)) 0 raws there;
        in_order = subst IsInTreeOrder (sym (parents_numbered (shape_of (nodes_of_raws raws)) 0 raws there)) given.in_order;
      };
      names = names_numbered 0 raws given.names;
    }

-- ---- one turn of the loop over the raws

-- what stands first in what is left stands at that place
read_drop : {X : Type 0} (xs : List X) (i : ℕ) (x : X) (rest : List X) → drop i xs ≡ x ∷ rest → slice_get xs i ≡ Some x
read_drop [] zero x rest is = cc
read_drop [] (suc i) x rest is = cc
read_drop (y ∷ xs) zero x rest is = cc
read_drop (y ∷ xs) (suc i) x rest is = read_drop xs i x rest is

-- the parent of the next raw stands before it
pub parent_before : (raws : List Raw) → IsTreeOfRaws raws → (i : ℕ) (raw : Raw) (rest : List Raw) → drop i raws ≡ raw ∷ rest → IfSome raw.parent (λ p. p < i)
parent_before raws given i raw rest is = go raw.parent (slice_get-map (λ (r : Raw). r.parent) raws i ∙ ap (option_map (λ (r : Raw). r.parent)) (read_drop raws i raw rest is))
  where
    go : (o : Option ℕ) → slice_get (map (λ (r : Raw). r.parent) raws) i ≡ Some o → IfSome o (λ p. p < i)
    go None at = tt
    go (Some p) at = given.in_order.before i p at

-- the node of the next raw goes last
pub one_more : (nodes more : Nodes) (node : Node) (raw : Raw) (left rest raws : List Raw) → more ≡ nodes ++ node ∷ [] → node ≡ node_of_raw (length nodes) raw → left ≡ raw ∷ rest
    → left ≡ drop (length nodes) raws → nodes ++ numbered (length nodes) left ≡ nodes_of_raws raws
    → (rest ≡ drop (length more) raws) × (more ++ numbered (length more) rest ≡ nodes_of_raws raws)
one_more nodes more node raw left rest raws pushed is next left_is made =
    let long : length more ≡ length nodes + 1 = ap length pushed ∙ length_push nodes node in
    let shifted : rest ≡ drop (length nodes + 1) raws = ap (drop 1) (sym next ∙ left_is) ∙ drop-drop 1 (length nodes) raws in
    let joined : (nodes ++ node ∷ []) ++ numbered (length nodes + 1) rest ≡ nodes ++ (node ∷ numbered (length nodes + 1) rest) = append_assoc nodes (node ∷ []) _ in
    let made_next : nodes ++ (node_of_raw (length nodes) raw ∷ numbered (length nodes + 1) rest) ≡ nodes_of_raws raws = ap (λ l. nodes ++ numbered (length nodes) l) (sym next) ∙ made in (
      shifted ∙ ap (λ n. drop n raws) (sym long),
      rw (long, pushed, joined, is) made_next,
    )
