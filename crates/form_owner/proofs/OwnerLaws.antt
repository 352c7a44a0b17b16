-- What is kept of the elements of a page is what the rules say of them.
use Rattle.std.proofs.Common.{add-one, ◌≡◌, ℕ, codes, zero, suc, ◌+◌, ◌<◌, ◌&&◌, Bool, true, false, not, cond, List, [], ◌∷◌, ◌++◌, length, map, take, Option, Some, None, refl, sym, ap, ◌∙◌, subst, arith}
use Rattle.std.specs.List.{filter, slice_get}
use Rattle.std.specs.Option.{option_and_then, option_map, option_map_or}
use Rattle.std.proofs.lemmas.List.{length-map}
use Rattle.std.proofs.lemmas.Option.{none-some, same_Some, slice_get-map}
use Rattle.form_tree.specs.declared.node.Key.{Key}
use Rattle.form_tree.specs.declared.node.Node.{Node}
use Rattle.form_tree.specs.Attributes.{set_attr, with_attr}
use Rattle.form_tree.specs.Disabling.{disables_through, disabling_count, is_disabled, is_first_legend}
use Rattle.form_tree.specs.Elements.{has_attr, is_fieldset, is_form, is_listed, passes, same_owner}
use Rattle.form_tree.specs.Ownership.{id_of, key_if_form, nearest_form, owner_by, owner_of}
use Rattle.form_tree.specs.Tree.{Nodes, IsTree, at_key, attr_of, is_key, key_at, parent_of, place_of}
use Rattle.form_tree.proofs.Laws.{at_key_place, at_place, disabling_step, disabling_top, found_key, key_found, nearest_form_step, nearest_form_top, parent_before, parent_there}
use Rattle.form_owner.specs.declared.answer.Answer.{Answer}
use Rattle.form_owner.specs.declared.moves.Move.{Move}
use Rattle.form_owner.specs.Owners.{answer_for, answer_of, changed_owners, is_moved, move_of, moves_of, is_kept_disabled, kept_owner, owners_of}

-- ---- by key

found_by_key : (ns more : Nodes) (k : Key) → answer_of (map (answer_for ns) more) k ≡ option_map (answer_for ns) (at_key more k)
found_by_key ns [] k = refl
found_by_key ns (n ∷ more) k = go (found_by_key ns more k) (is_key k n)
  where
    go : answer_of (map (answer_for ns) more) k ≡ option_map (answer_for ns) (at_key more k) → (b : Bool) → cond b (Some (answer_for ns n)) (answer_of (map (answer_for ns) more) k) ≡ option_map (answer_for ns) (cond b (Some n) (at_key more k))
    go rest true = refl
    go rest false = rest

-- what is kept of a key is what is to be kept of its element
pub answer_of-owners_of : (ns : Nodes) (k : Key) → answer_of (owners_of ns) k ≡ option_map (answer_for ns) (at_key ns k)
answer_of-owners_of ns k = found_by_key ns ns k

pub kept_owner-owners_of : (ns : Nodes) (k : Key) → kept_owner (owners_of ns) k ≡ owner_of ns k
kept_owner-owners_of ns k = ap (option_and_then (λ (a : Answer). a.owner)) (answer_of-owners_of ns k) ∙ go (at_key ns k) refl
  where
    go : (o : Option Node) → at_key ns k ≡ o → option_and_then (λ (a : Answer). a.owner) (option_map (answer_for ns) o) ≡ owner_of ns k
    go None e = sym (ap (λ (p : Option Node). cond (option_map_or is_listed p false) (owner_by ns k (attr_of ns k (codes "form"))) None) e)
    go (Some n) e = ap (owner_of ns) (found_key ns k n e)

pub disabled-owners_of : (ns : Nodes) (k : Key) → is_kept_disabled (owners_of ns) k ≡ is_disabled ns k
disabled-owners_of ns k = ap (λ (o : Option Answer). option_map_or (λ (a : Answer). a.disabled) o false) (answer_of-owners_of ns k) ∙ go (at_key ns k) refl
  where
    go : (o : Option Node) → at_key ns k ≡ o → option_map_or (λ (a : Answer). a.disabled) (option_map (answer_for ns) o) false ≡ is_disabled ns k
    go None e = sym (rw e refl)
    go (Some n) e = ap (is_disabled ns) (found_key ns k n e)

-- ---- one more answer

-- an element's answer, from what was found for its key
pub answer_made : (ns : Nodes) (k : Key) (n : Node) (a : Answer) → at_key ns k ≡ Some n → a.key ≡ k → a.id ≡ option_and_then id_of (at_key ns k) → a.ancestor_form ≡ nearest_form ns k → a.owner ≡ owner_of ns k → a.disabling ≡ disabling_count ns k → a.disabled ≡ is_disabled ns k → a ≡ answer_for ns n
answer_made ns k n a found key id form owner disabling disabled =
    let same : k ≡ n.key = sym (found_key ns k n found) in
    let id_at : a.id ≡ id_of n = id ∙ ap (option_and_then id_of) found in
    grind (arith, key ∙ same, id_at, form ∙ ap (nearest_form ns) same, owner ∙ ap (owner_of ns) same, disabling ∙ ap (disabling_count ns) same, disabled ∙ ap (is_disabled ns) same)

pub one_more : (ns : Nodes) → IsTree ns → (i : ℕ) (k : Key) (a : Answer) → Some k ≡ key_at ns i → Some a ≡ option_map (answer_for ns) (at_key ns k) → take (i + 1) (owners_of ns) ≡ take i (owners_of ns) ++ a ∷ []
one_more ns tree i k a told made =
    let met = key_found ns i k told in
    let found : at_key ns k ≡ Some met.0 = subst (λ (q : Key). at_key ns q ≡ Some met.0) met.2 (at_place ns tree i met.0 met.1).0 in
    let same : a ≡ answer_for ns met.0 = same_Some a (answer_for ns met.0) (made ∙ ap (option_map (answer_for ns)) found) in
    rw add-one (more ns i met.0 met.1 ∙ ap (λ (b : Answer). take i (owners_of ns) ++ b ∷ []) (sym same))
  where
    more : (xs : Nodes) (j : ℕ) (n : Node) → slice_get xs j ≡ Some n → take (suc j) (map (answer_for ns) xs) ≡ take j (map (answer_for ns) xs) ++ answer_for ns n ∷ []
    more [] j n e = absurd (none-some n e)
    more (x ∷ xs) zero n e = ap (λ (y : Node). answer_for ns y ∷ []) (same_Some x n e)
    more (x ∷ xs) (suc j) n e = ap (λ (rest : List Answer). answer_for ns x ∷ rest) (more xs j n e)

-- ---- what is known of the parent

abbrev pub known_above : Nodes → Key → Option Answer
known_above ns k = option_map (answer_for ns) (option_and_then (at_key ns) (parent_of ns k))

get-take : {X : Type 0} (xs : List X) (i j : ℕ) → j < i → slice_get (take i xs) j ≡ slice_get xs j
get-take xs zero j lt = absurd (omega arith)
get-take [] (suc i) j lt = refl
get-take (x ∷ xs) (suc i) zero lt = refl
get-take (x ∷ xs) (suc i) (suc j) lt = get-take xs i j (omega arith)

-- the answer at the parent's place
pub parent_known : (ns : Nodes) → IsTree ns → (i : ℕ) (k p : Key) (j : ℕ) → Some k ≡ key_at ns i → Some p ≡ parent_of ns k → Some j ≡ place_of ns p → slice_get (take i (owners_of ns)) j ≡ known_above ns k
parent_known ns tree i k p j told up placed =
    let met = key_found ns i k told in
    let found : at_key ns k ≡ Some met.0 = subst (λ (q : Key). at_key ns q ≡ Some met.0) met.2 (at_place ns tree i met.0 met.1).0 in
    let parent : met.0.parent ≡ Some p = sym (ap (option_and_then (λ (n : Node). n.parent)) found) ∙ sym up in
    let before = parent_before ns tree i met.0 p met.1 parent in
    let same : before.0 ≡ j = same_Some before.0 j (sym before.2 ∙ sym placed) in
    get-take (owners_of ns) i j (subst (λ (m : ℕ). m < i) same before.1)
    ∙ slice_get-map (answer_for ns) ns j
    ∙ ap (option_map (answer_for ns)) (sym (at_key_place ns p ∙ ap (option_and_then (slice_get ns)) (sym placed)))
    ∙ ap (λ (o : Option Key). option_map (answer_for ns) (option_and_then (at_key ns) o)) up

pub parent_unplaced : (ns : Nodes) (k p : Key) → Some p ≡ parent_of ns k → None ≡ place_of ns p → None ≡ known_above ns k
parent_unplaced ns k p up placed =
    sym (ap (λ (o : Option Key). option_map (answer_for ns) (option_and_then (at_key ns) o)) (sym up)
    ∙ ap (option_map (answer_for ns)) (at_key_place ns p ∙ ap (option_and_then (slice_get ns)) (sym placed)))

pub no_parent_known : (ns : Nodes) (k : Key) → None ≡ parent_of ns k → None ≡ known_above ns k
no_parent_known ns k up = ap (λ (o : Option Key). option_map (answer_for ns) (option_and_then (at_key ns) o)) up

-- an answer that is known is that of the parent
pub known_parent : (ns : Nodes) (k : Key) (a : Answer) → Some a ≡ known_above ns k → (p : Key) × (m : Node) × (parent_of ns k ≡ Some p) × (at_key ns p ≡ Some m) × (a ≡ answer_for ns m) × (m.key ≡ p)
known_parent ns k a known = go (parent_of ns k) refl known
  where
    at : (p : Key) → parent_of ns k ≡ Some p → (o : Option Node) → at_key ns p ≡ o → Some a ≡ option_map (answer_for ns) o → (p : Key) × (m : Node) × (parent_of ns k ≡ Some p) × (at_key ns p ≡ Some m) × (a ≡ answer_for ns m) × (m.key ≡ p)
    at p up None e h = absurd (none-some a (sym h))
    at p up (Some m) e h = (p, m, up, e, same_Some a (answer_for ns m) h, found_key ns p m e)

    go : (o : Option Key) → parent_of ns k ≡ o → Some a ≡ option_map (answer_for ns) (option_and_then (at_key ns) o) → (p : Key) × (m : Node) × (parent_of ns k ≡ Some p) × (at_key ns p ≡ Some m) × (a ≡ answer_for ns m) × (m.key ≡ p)
    go None e h = absurd (none-some a (sym h))
    go (Some p) e h = at p e (at_key ns p) refl h

unknown_top : (ns : Nodes) → IsTree ns → (k : Key) → None ≡ known_above ns k → parent_of ns k ≡ None
unknown_top ns tree k none = go (parent_of ns k) refl none
  where
    go : (o : Option Key) → parent_of ns k ≡ o → None ≡ option_map (answer_for ns) (option_and_then (at_key ns) o) → parent_of ns k ≡ None
    go None e h = e
    go (Some p) e h =
        let there = parent_there ns tree k p e in
        absurd (none-some (answer_for ns there.0) (h ∙ ap (option_map (answer_for ns)) there.1))

-- the nearest form, by what is known of the parent
pub form_known : (ns : Nodes) → IsTree ns → (k : Key) (a : Answer) → Some a ≡ known_above ns k → nearest_form ns k ≡ cond (passes is_form ns a.key) (Some a.key) a.ancestor_form
form_known ns tree k a known =
    let met = known_parent ns k a known in
    let key : a.key ≡ met.0 = ap (λ (b : Answer). b.key) met.4 ∙ met.5 in
    let form : a.ancestor_form ≡ nearest_form ns met.0 = ap (λ (b : Answer). b.ancestor_form) met.4 ∙ ap (nearest_form ns) met.5 in
    let test : passes is_form ns met.0 ≡ is_form met.1 = ap (λ (o : Option Node). option_map_or is_form o false) met.3 in
    nearest_form_step ns tree k met.0 met.1 met.2 met.3
    ∙ sym (ap (λ (q : Key). cond (passes is_form ns q) (Some q) a.ancestor_form) key ∙ ap (λ (b : Bool). cond b (Some met.0) a.ancestor_form) test ∙ ap (cond (is_form met.1) (Some met.0)) form)

pub form_unknown : (ns : Nodes) → IsTree ns → (k : Key) → None ≡ known_above ns k → nearest_form ns k ≡ None
form_unknown ns tree k none = nearest_form_top ns tree k (unknown_top ns tree k none)

-- the number of disabling fieldsets, by what is known of the parent
pub disabling_known : (ns : Nodes) → IsTree ns → (k : Key) (a : Answer) → Some a ≡ known_above ns k → disabling_count ns k ≡ cond (passes (disables_through ns k) ns a.key) 1 0 + a.disabling
disabling_known ns tree k a known =
    let met = known_parent ns k a known in
    let key : a.key ≡ met.0 = ap (λ (b : Answer). b.key) met.4 ∙ met.5 in
    let count : a.disabling ≡ disabling_count ns met.0 = ap (λ (b : Answer). b.disabling) met.4 ∙ ap (disabling_count ns) met.5 in
    let test : passes (disables_through ns k) ns met.0 ≡ disables_through ns k met.1 = ap (λ (o : Option Node). option_map_or (disables_through ns k) o false) met.3 in
    disabling_step ns tree k met.0 met.1 met.2 met.3
    ∙ sym (ap (λ (q : Key). cond (passes (disables_through ns k) ns q) 1 0 + a.disabling) key ∙ ap (λ (b : Bool). cond b 1 0 + a.disabling) test ∙ ap (λ (n : ℕ). cond (disables_through ns k met.1) 1 0 + n) count)

pub disabling_unknown : (ns : Nodes) → IsTree ns → (k : Key) → None ≡ known_above ns k → disabling_count ns k ≡ 0
disabling_unknown ns tree k none = disabling_top ns tree k (unknown_top ns tree k none)

-- a fieldset that disables, by its parts
pub disables_parts : (ns : Nodes) (child f : Key) → passes (disables_through ns child) ns f ≡ (passes is_fieldset ns f && passes (has_attr (codes "disabled")) ns f) && not (is_first_legend ns f child)
disables_parts ns child f = go (at_key ns f) refl
  where
    go : (o : Option Node) → at_key ns f ≡ o → option_map_or (disables_through ns child) o false ≡ (option_map_or is_fieldset o false && option_map_or (has_attr (codes "disabled")) o false) && not (is_first_legend ns f child)
    go None e = refl
    go (Some n) e = ap (λ (q : Key). (is_fieldset n && has_attr (codes "disabled") n) && not (is_first_legend ns q child)) (found_key ns f n e)

-- ---- a search along the places

-- the element at a place has its own key
pub own_key : (ns : Nodes) → IsTree ns → (i : ℕ) (k : Key) → Some k ≡ key_at ns i → Some k ≡ option_map (λ (n : Node). n.key) (at_key ns k)
own_key ns tree i k told =
    let met = key_found ns i k told in
    let found : at_key ns k ≡ Some met.0 = subst (λ (q : Key). at_key ns q ≡ Some met.0) met.2 (at_place ns tree i met.0 met.1).0 in
    ap (λ (q : Key). Some q) (sym met.2) ∙ ap (option_map (λ (n : Node). n.key)) (sym found)

-- a form's key is what is found of it
pub form_itself : (ns : Nodes) (k : Key) → passes is_form ns k ≡ true → Some k ≡ option_and_then key_if_form (at_key ns k)
form_itself ns k form = go (at_key ns k) refl form
  where
    go : (o : Option Node) → at_key ns k ≡ o → option_map_or is_form o false ≡ true → Some k ≡ option_and_then key_if_form o
    go None e h = absurd (cc)
    go (Some n) e h = rw h (ap (λ (q : Key). Some q) (sym (found_key ns k n e)))

-- the answer for the element at a place
pub answer_there : (ns : Nodes) → IsTree ns → (i : ℕ) (k : Key) (a : Answer) → Some k ≡ key_at ns i → a.key ≡ k → a.id ≡ option_and_then id_of (at_key ns k) → a.ancestor_form ≡ nearest_form ns k → a.owner ≡ owner_of ns k → a.disabling ≡ disabling_count ns k → a.disabled ≡ is_disabled ns k → Some a ≡ option_map (answer_for ns) (at_key ns k)
answer_there ns tree i k a told key id form owner disabling disabled =
    let met = key_found ns i k told in
    let found : at_key ns k ≡ Some met.0 = subst (λ (q : Key). at_key ns q ≡ Some met.0) met.2 (at_place ns tree i met.0 met.1).0 in
    ap (λ (b : Answer). Some b) (answer_made ns k met.0 a found key id form owner disabling disabled) ∙ ap (option_map (answer_for ns)) (sym found)

pub one_before : (n : ℕ) → n + 1 ≡ 1 + n
one_before n = omega arith

pub none_before : (n : ℕ) → n ≡ 0 + n
none_before n = omega arith

-- ---- moves

abbrev same_keys : Nodes → Nodes → Type 0
same_keys xs ys = map (λ (n : Node). n.key) xs ≡ map (λ (n : Node). n.key) ys

heads : {X : Type 0} (x y : X) (xs ys : List X) → x ∷ xs ≡ y ∷ ys → (x ≡ y) × (xs ≡ ys)
heads x y xs ys e = (grind (arith, e), grind (arith, e))

-- the moves by place are those of the nodes that are moved
moved_by_place : (before after xs ys : Nodes) → same_keys xs ys → changed_owners (map (answer_for before) xs) (map (answer_for after) ys) ≡ map (move_of before after) (filter (is_moved before after) xs)
moved_by_place before after [] ys same = refl
moved_by_place before after (x ∷ xs) [] same = cc
moved_by_place before after (x ∷ xs) (y ∷ ys) same =
    let parts = heads x.key y.key (map (λ (n : Node). n.key) xs) (map (λ (n : Node). n.key) ys) same in
    rw (← parts.0, moved_by_place before after xs ys parts.1) (go (same_owner (owner_of before x.key) (owner_of after x.key)))
  where
    moved : Move
    moved = record { key = x.key; was = owner_of before x.key; becomes = owner_of after x.key }

    go : (b : Bool) → cond b [] (moved ∷ []) ++ map (move_of before after) (filter (is_moved before after) xs) ≡ map (move_of before after) (cond (not b) (x ∷ filter (is_moved before after) xs) (filter (is_moved before after) xs))
    go true = refl
    go false = refl

keys_kept : (ns : Nodes) (test : Node → Bool) (change : Node → Node) → ((n : Node) → (change n).key ≡ n.key) → same_keys ns (map (λ n. cond (test n) (change n) n) ns)
keys_kept [] test change keeps = refl
keys_kept (n ∷ ns) test change keeps = go (keys_kept ns test change keeps) (test n)
  where
    go : same_keys ns (map (λ n. cond (test n) (change n) n) ns) → (b : Bool) → n.key ∷ map (λ (m : Node). m.key) ns ≡ (cond b (change n) n).key ∷ map (λ (m : Node). m.key) (map (λ n. cond (test n) (change n) n) ns)
    go rest true = rw (keeps n, ← rest) refl
    go rest false = rw (← rest) refl

pub moves_found : (ns : Nodes) (k : Key) (name : List ℕ) (value : Option (List ℕ)) → changed_owners (owners_of ns) (owners_of (with_attr ns k name value)) ≡ moves_of ns k name value
moves_found ns k name value = moved_by_place ns (with_attr ns k name value) ns (with_attr ns k name value) (keys_kept ns (is_key k) (set_attr name value) (λ n. refl))

pub same_long : (ns : Nodes) (k : Key) (name : List ℕ) (value : Option (List ℕ)) → length (owners_of ns) ≡ length (owners_of (with_attr ns k name value))
same_long ns k name value = length-map ns (answer_for ns) ∙ sym (length-map (with_attr ns k name value) (answer_for (with_attr ns k name value)) ∙ length-map ns (λ n. cond (is_key k n) (set_attr name value n) n))
