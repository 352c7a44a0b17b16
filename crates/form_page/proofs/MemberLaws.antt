-- Radio buttons as members of their groups.
use Rattle.std.proofs.Common.{◌≡◌, ℕ, zero, suc, ◌<◌, ◌≤◌, Bool, true, false, ◌||◌, ◌&&◌, not, cond, List, [], ◌∷◌, ◌++◌, length, map, take, get_or, Option, Some, None, IfSome, refl, sym, ap, ◌∙◌, subst, arith, ltb}
use Rattle.std.specs.Prelude.{reverse, codes, ◌==◌}
use Rattle.std.specs.List.{All, filter, find, list_any, list_all, slice_get}
use Rattle.std.specs.Option.{option_map, option_map_or, option_and_then}
use Rattle.std.specs.Str.{bytes_eq}
use Rattle.std.proofs.lemmas.Bool.{and_parts, lt-ltb, ltb-true, or_parts}
use Rattle.std.proofs.lemmas.Bool.Decides.{nat_tests}
use Rattle.std.proofs.lemmas.List.{map-append, reverse-append}
use Rattle.std.proofs.lemmas.List.Elements.{filter-append}
use Rattle.std.proofs.lemmas.List.Quantifiers.{position-Some}
use Rattle.std.proofs.lemmas.Option.{none-some, same_Some}
use Rattle.std.proofs.lemmas.Slice.Eq.{bytes_eq-Decides}
use Rattle.std.proofs.Math.Seq.{take-suc}
use Rattle.form_tree.specs.declared.node.Key.{Key}
use Rattle.form_tree.specs.declared.node.Node.{Node}
use Rattle.form_tree.specs.Elements.{is_among, is_empty_text, is_form, is_listed, passes, same_key, same_owner}
use Rattle.form_tree.specs.Ownership.{above, ancestors, has_id, key_if_form, owner_by, owner_of}
use Rattle.form_tree.specs.RadioGroup.{is_checked, is_group_missing, is_radio, is_required, name_of, radio_group, share_group}
use Rattle.form_tree.specs.Tree.{Nodes, IsTree, at_key, attr_of, is_key, parent_of, place_of, shape_of}
use Rattle.form_tree.proofs.Laws.{at_key_place, at_place, key_same, same_key-refl}
use Rattle.form_judge.proofs.Laws.{no_members}
use Rattle.form_groups.specs.declared.group.Member.{Member}
use Rattle.form_groups.specs.Groups.{Entries, IsGroup, group_of, is_missing, keys_of, member_of}
use Rattle.form_page.specs.Members.{AreGroupsAmong, is_in_group, members_among}
use Rattle.form_select.proofs.Laws.{at_own_key}

-- ---- keys of owners are from 1

abbrev is_numbered : Node → Bool
is_numbered n = ltb 0 n.key.0

all_numbered : (ns : Nodes) → All (λ (entry : Key × Option Key). 1 ≤ entry.0.0) (shape_of ns) → list_all is_numbered ns ≡ true
all_numbered [] from_one = refl
all_numbered (n ∷ ns) from_one = rw (lt-ltb 0 n.key.0 (omega (arith, from_one 0 (n.key, n.parent) (omega arith)))) (all_numbered ns (λ i d lt. from_one (suc i) d (omega arith)))

found_numbered : (test : Node → Bool) (ns : Nodes) (n : Node) → list_all is_numbered ns ≡ true → find test ns ≡ Some n → 1 ≤ n.key.0
found_numbered test [] n all found = absurd (none-some n found)
found_numbered test (m ∷ ns) n all found = let parts = and_parts (is_numbered m) (list_all is_numbered ns) all in go parts.0 (found_numbered test ns n parts.1) (test m) found
  where
    go : is_numbered m ≡ true → (find test ns ≡ Some n → 1 ≤ n.key.0) → (b : Bool) → cond b (Some m) (find test ns) ≡ Some n → 1 ≤ n.key.0
    go here more true h = subst (λ (x : Node). 1 ≤ x.key.0) (same_Some m n h) (let lt = ltb-true 0 m.key.0 here in omega (arith, lt))
    go here more false h = more h

all-append : (xs ys : Nodes) → list_all is_numbered xs ≡ true → list_all is_numbered ys ≡ true → list_all is_numbered (xs ++ ys) ≡ true
all-append [] ys h k = k
all-append (x ∷ xs) ys h k = let parts = and_parts (is_numbered x) (list_all is_numbered xs) h in rw (parts.0, all-append xs ys parts.1 k) refl

all-reverse : (xs : Nodes) → list_all is_numbered xs ≡ true → list_all is_numbered (reverse xs) ≡ true
all-reverse [] h = refl
all-reverse (x ∷ xs) h = let parts = and_parts (is_numbered x) (list_all is_numbered xs) h in rw (reverse-append (x ∷ []) xs) (all-append (reverse xs) (x ∷ []) (all-reverse xs parts.1) (rw parts.0 refl))

all-above : (xs : Nodes) (up : Option Key) → list_all is_numbered xs ≡ true → list_all is_numbered (above xs up) ≡ true
all-above [] up h = refl
all-above (x ∷ xs) None h = refl
all-above (x ∷ xs) (Some k) h = let parts = and_parts (is_numbered x) (list_all is_numbered xs) h in go parts.0 (all-above xs x.parent parts.1) (all-above xs (Some k) parts.1) (is_key k x)
  where
    go : is_numbered x ≡ true → list_all is_numbered (above xs x.parent) ≡ true → list_all is_numbered (above xs (Some k)) ≡ true → (b : Bool) → list_all is_numbered (cond b (x ∷ above xs x.parent) (above xs (Some k))) ≡ true
    go here up past true = rw (here, up) refl
    go here up past false = past

abbrev IsNumbered : Option Key → Type 0
IsNumbered owner = IfSome owner (λ k. 1 ≤ k.0)

pub owner_numbered : (ns : Nodes) → IsTree ns → (k : Key) → IsNumbered (owner_of ns k)
owner_numbered ns tree k = listed (passes is_listed ns k)
  where
    all : list_all is_numbered ns ≡ true
    all = all_numbered ns tree.shape.keys_from_one

    with_id : (text : List ℕ) (o : Option Node) → find (has_id text) ns ≡ o → IsNumbered (option_and_then key_if_form o)
    with_id text None e = tt
    with_id text (Some n) e = go (is_form n)
      where
        go : (b : Bool) → IsNumbered (cond b (Some n.key) None)
        go true = found_numbered (has_id text) ns n all e
        go false = tt

    nearest : (o : Option Node) → find is_form (ancestors ns k) ≡ o → IsNumbered (option_map (λ (n : Node). n.key) o)
    nearest None e = tt
    nearest (Some n) e = found_numbered is_form (ancestors ns k) n (all-above (reverse ns) (parent_of ns k) (all-reverse ns all)) e

    by : (o : Option (List ℕ)) → IsNumbered (owner_by ns k o)
    by None = nearest (find is_form (ancestors ns k)) refl
    by (Some text) = with_id text (find (has_id text) ns) refl

    listed : (b : Bool) → IsNumbered (cond b (owner_by ns k (attr_of ns k (codes "form"))) None)
    listed true = by (attr_of ns k (codes "form"))
    listed false = tt

-- a name that is not empty, and an owner, name a group
filled : (name : List ℕ) → false ≡ (length name == 0) → 0 < length name
filled name h = grind (arith, nat_tests, h)

pub is_group : (ns : Nodes) → IsTree ns → (k : Key) (owner : Option Key) (name : List ℕ) → owner ≡ owner_of ns k → false ≡ (length name == 0) → IsGroup owner name
is_group ns tree k owner name owns h = (subst IsNumbered (sym owns) (owner_numbered ns tree k), filled name h)

pub empty_name : (name : List ℕ) → true ≡ (length name == 0) → is_empty_text name ≡ true
empty_name [] h = refl
empty_name (b ∷ bs) h = absurd (grind (arith, nat_tests, h))

pub filled_name : (name : List ℕ) → false ≡ (length name == 0) → is_empty_text name ≡ false
filled_name [] h = absurd (grind (arith, nat_tests, h))
filled_name (b ∷ bs) h = refl

-- ---- one more element

none_of_key : (k : Key) (p : Node → Bool) (xs : Nodes) → list_any (is_key k) xs ≡ false → is_among (keys_of (map member_of (filter p xs))) k ≡ false
none_of_key k p [] none = refl
none_of_key k p (x ∷ xs) none = let parts = or_parts (is_key k x) (list_any (is_key k) xs) none in go parts.0 (none_of_key k p xs parts.1) (p x)
  where
    go : is_key k x ≡ false → is_among (keys_of (map member_of (filter p xs))) k ≡ false → (b : Bool) → is_among (keys_of (map member_of (cond b (x ∷ filter p xs) (filter p xs)))) k ≡ false
    go here more true = rw (here, more) refl
    go here more false = more

none_before : (p : Node → Bool) (xs : Nodes) (i : ℕ) (d : Node) → i ≤ length xs → ((j : ℕ) → j < i → p (get_or xs j d) ≡ false) → list_any p (take i xs) ≡ false
none_before p xs zero d le none = refl
none_before p [] (suc i) d le none = refl
none_before p (x ∷ xs) (suc i) d le none = rw (none 0 (omega arith), none_before p xs i d (omega arith) (λ j lt. none (suc j) (omega arith))) refl

-- the element at a place is no member yet of what the elements before it are
pub is_new : (ns : Nodes) → IsTree ns → (i : ℕ) (n : Node) → slice_get ns i ≡ Some n → (owner : Option Key) (name : List ℕ) → is_among (keys_of (members_among ns owner name (take i ns))) n.key ≡ false
is_new ns tree i n given owner name =
    let placed = (at_place ns tree i n given).1 in
    let met = position-Some (is_key n.key) ns i n placed in
    let below : i ≤ length ns = omega (arith, met.0) in
    none_of_key n.key (is_in_group ns owner name) (take i ns) (none_before (is_key n.key) ns i n below met.2)

pub one_more_member : (ns : Nodes) (owner : Option Key) (name : List ℕ) (i : ℕ) (n : Node) → i < length ns → n ≡ get_or ns i n → members_among ns owner name (take (suc i) ns) ≡ members_among ns owner name (take i ns) ++ members_among ns owner name (n ∷ [])
one_more_member ns owner name i n below read =
    ap (members_among ns owner name) (take-suc ns i n below ∙ ap (λ (m : Node). take i ns ++ m ∷ []) (sym read))
    ∙ ap (map member_of) (filter-append (is_in_group ns owner name) (take i ns) (n ∷ []))
    ∙ map-append member_of (filter (is_in_group ns owner name) (take i ns)) (filter (is_in_group ns owner name) (n ∷ []))

-- ---- what a group lacks

-- each of these elements is found by its own key
abbrev AreOwn : Nodes → Nodes → Type 0
AreOwn ns xs = (i : ℕ) (d : Node) → i < length xs → at_key ns (get_or xs i d).key ≡ Some (get_or xs i d)

pub all_own : (ns : Nodes) → IsTree ns → AreOwn ns ns
all_own ns tree i d below = at_own_key ns tree i (get_or ns i d) below (same ns i d below)
  where
    same : (xs : Nodes) (i : ℕ) (d : Node) → i < length xs → get_or xs i d ≡ get_or xs i (get_or xs i d)
    same [] i d lt = absurd (omega arith)
    same (x ∷ xs) zero d lt = refl
    same (x ∷ xs) (suc i) d lt = same xs i d (omega arith)

filter_own : (ns : Nodes) (p q : Node → Bool) → ((m : Node) → at_key ns m.key ≡ Some m → p m ≡ q m) → (xs : Nodes) → AreOwn ns xs → filter p xs ≡ filter q xs
filter_own ns p q same [] own = refl
filter_own ns p q same (x ∷ xs) own = rw (same x (own 0 x (omega arith)), filter_own ns p q same xs (λ i d lt. own (suc i) d (omega arith))) refl

passes_own : (test : Node → Bool) (ns : Nodes) (m : Node) → at_key ns m.key ≡ Some m → passes test ns m.key ≡ test m
passes_own test ns m own = ap (λ (o : Option Node). option_map_or test o false) own

owner-refl : (o : Option Key) → same_owner o o ≡ true
owner-refl None = refl
owner-refl (Some k) = same_key-refl k

bytes-refl : (s : List ℕ) → bytes_eq s s ≡ true
bytes-refl s = (bytes_eq-Decides s s).1 refl

filter_none : (xs : Nodes) → filter (λ (m : Node). false) xs ≡ []
filter_none [] = refl
filter_none (x ∷ xs) = filter_none xs

-- an element that is no radio button lacks nothing
pub no_group : (ns : Nodes) (n : Node) → at_key ns n.key ≡ Some n → is_radio n ≡ false → is_group_missing ns n.key ≡ false
no_group ns n own none = rw (passes_own is_radio ns n own, none, filter_none ns) refl

-- and no member
pub none_listed : (ns : Nodes) (n : Node) → at_key ns n.key ≡ Some n → is_radio n ≡ false → map (λ (m : Node). m.key) (radio_group ns n.key) ≡ []
none_listed ns n own none = ap (map (λ (m : Node). m.key)) (no_members ns n.key (passes_own is_radio ns n own ∙ none))

pub absent_listed : (ns : Nodes) (k : Key) → at_key ns k ≡ None → map (λ (m : Node). m.key) (radio_group ns k) ≡ []
absent_listed ns k none = ap (map (λ (m : Node). m.key)) (no_members ns k (ap (λ (o : Option Node). option_map_or is_radio o false) none))

pub keys_of_members : (xs : Nodes) → keys_of (map member_of xs) ≡ map (λ (m : Node). m.key) xs
keys_of_members [] = refl
keys_of_members (x ∷ xs) = ap (λ (ks : List Key). x.key ∷ ks) (keys_of_members xs)

none_at : (p : Node → Bool) (xs : Nodes) → ((j : ℕ) (m : Node) → slice_get xs j ≡ Some m → p m ≡ true → ⊥) → filter p xs ≡ []
none_at p [] none = refl
none_at p (x ∷ xs) none = go (p x) refl (none_at p xs (λ j m. none (suc j) m))
  where
    go : (b : Bool) → p x ≡ b → filter p xs ≡ [] → cond b (x ∷ filter p xs) (filter p xs) ≡ []
    go true e rest = absurd (none zero x refl e)
    go false e rest = rest

-- what passes at one place alone
only_there : (p : Node → Bool) (xs : Nodes) (i : ℕ) (n : Node) → slice_get xs i ≡ Some n → p n ≡ true → ((j : ℕ) (m : Node) → slice_get xs j ≡ Some m → p m ≡ true → j ≡ i) → filter p xs ≡ n ∷ []
only_there p [] i n there here only = absurd (none-some n (there))
only_there p (x ∷ xs) zero n there here only =
    let is : x ≡ n = same_Some x n there in
    rw (ap p is ∙ here, none_at p xs (λ j m at passes. absurd (omega (arith, only (suc j) m at passes)))) (ap (λ (y : Node). y ∷ []) is)
only_there p (x ∷ xs) (suc i) n there here only = go (p x) refl (only_there p xs i n there here (λ j m at passes. omega (arith, only (suc j) m at passes)))
  where
    go : (b : Bool) → p x ≡ b → filter p xs ≡ n ∷ [] → cond b (x ∷ filter p xs) (filter p xs) ≡ n ∷ []
    go true e rest = absurd (omega (arith, only zero x refl e))
    go false e rest = rest

-- a radio button with a name: its group by owner and name
module _ (ns : Nodes) (tree : IsTree ns) (n : Node) (own : at_key ns n.key ≡ Some n) (radio : is_radio n ≡ true) where
  shared : is_empty_text (name_of ns n.key) ≡ false → (m : Node) → at_key ns m.key ≡ Some m → share_group ns n.key m.key ≡ is_in_group ns (owner_of ns n.key) (name_of ns n.key) m
  shared filled m own_m = rw (passes_own is_radio ns n own, radio, passes_own is_radio ns m own_m, filled) (go (same_key n.key m.key) refl)
    where
      theirs : Bool
      theirs = same_owner (owner_of ns n.key) (owner_of ns m.key) && bytes_eq (name_of ns n.key) (name_of ns m.key)

      itself : same_key n.key m.key ≡ true → theirs ≡ true
      itself same = subst (λ (k : Key). (same_owner (owner_of ns n.key) (owner_of ns k) && bytes_eq (name_of ns n.key) (name_of ns k)) ≡ true) (key_same n.key m.key same) (rw (owner-refl (owner_of ns n.key), bytes-refl (name_of ns n.key)) refl)

      go : (b : Bool) → same_key n.key m.key ≡ b → (is_radio m && (b || theirs)) ≡ (is_radio m && theirs)
      go true e = rw (itself e) refl
      go false e = refl

  any_member : (p : Member → Bool) (xs : Nodes) → list_any p (map member_of xs) ≡ list_any (λ (m : Node). p (member_of m)) xs
  any_member p [] = refl
  any_member p (x ∷ xs) = ap (λ (b : Bool). p (member_of x) || b) (any_member p xs)

  pub group_lacks : is_empty_text (name_of ns n.key) ≡ false → is_missing (members_among ns (owner_of ns n.key) (name_of ns n.key) ns) ≡ is_group_missing ns n.key
  group_lacks filled =
      let same = filter_own ns (λ (m : Node). share_group ns n.key m.key) (is_in_group ns (owner_of ns n.key) (name_of ns n.key)) (shared filled) ns (all_own ns tree) in
      rw (same, any_member (λ (m : Member). m.required) (filter (is_in_group ns (owner_of ns n.key) (name_of ns n.key)) ns), any_member (λ (m : Member). m.checked) (filter (is_in_group ns (owner_of ns n.key) (name_of ns n.key)) ns)) refl

  -- without a name it is alone
  alone : is_empty_text (name_of ns n.key) ≡ true → (m : Node) → at_key ns m.key ≡ Some m → share_group ns n.key m.key ≡ is_key n.key m
  alone empty m own_m = rw (passes_own is_radio ns n own, radio, passes_own is_radio ns m own_m, empty) (go (same_key n.key m.key) refl (same_owner (owner_of ns n.key) (owner_of ns m.key)))
    where
      itself : same_key n.key m.key ≡ true → is_radio m ≡ true
      itself same = ap is_radio (same_Some m n (sym own_m ∙ ap (at_key ns) (sym (key_same n.key m.key same)) ∙ own)) ∙ radio

      go : (b : Bool) → same_key n.key m.key ≡ b → (c : Bool) → (is_radio m && (b || (c && false))) ≡ b
      go true e c = rw (itself e) refl
      go false e true = both (is_radio m)
        where
          both : (b : Bool) → (b && false) ≡ false
          both true = refl
          both false = refl
      go false e false = both (is_radio m)
        where
          both : (b : Bool) → (b && false) ≡ false
          both true = refl
          both false = refl

  -- the one element of a key
  any_of_key : (p : Node → Bool) (xs : Nodes) → AreOwn ns xs → list_any p (filter (is_key n.key) xs) ≡ (list_any (is_key n.key) xs && p n)
  any_of_key p [] own_all = refl
  any_of_key p (x ∷ xs) own_all = go (any_of_key p xs (λ i d lt. own_all (suc i) d (omega arith))) (is_key n.key x) refl
    where
      go : list_any p (filter (is_key n.key) xs) ≡ (list_any (is_key n.key) xs && p n) → (b : Bool) → is_key n.key x ≡ b → list_any p (cond b (x ∷ filter (is_key n.key) xs) (filter (is_key n.key) xs)) ≡ ((b || list_any (is_key n.key) xs) && p n)
      go rest true e =
          let it : x ≡ n = same_Some x n (sym (own_all 0 x (omega arith)) ∙ ap (at_key ns) (sym (key_same n.key x.key e)) ∙ own) in
          rw (it, rest) (absorbed (p n) (list_any (is_key n.key) xs))
        where
          absorbed : (a b : Bool) → (a || (b && a)) ≡ a
          absorbed true b = refl
          absorbed false true = refl
          absorbed false false = refl
      go rest false e = rest

  found_any : (xs : Nodes) → find (is_key n.key) xs ≡ Some n → list_any (is_key n.key) xs ≡ true
  found_any [] found = absurd (none-some n found)
  found_any (x ∷ xs) found = go (found_any xs) (is_key n.key x) found
    where
      go : (find (is_key n.key) xs ≡ Some n → list_any (is_key n.key) xs ≡ true) → (b : Bool) → cond b (Some x) (find (is_key n.key) xs) ≡ Some n → (b || list_any (is_key n.key) xs) ≡ true
      go more true h = refl
      go more false h = more h

  any_there : (p : Node → Bool) → list_any p (filter (is_key n.key) ns) ≡ p n
  any_there p = rw (any_of_key p ns (all_own ns tree), found_any ns own) refl

  pub alone_lacks : is_empty_text (name_of ns n.key) ≡ true → is_group_missing ns n.key ≡ (is_required n && not (is_checked n))
  alone_lacks empty =
      let same = filter_own ns (λ (m : Node). share_group ns n.key m.key) (is_key n.key) (alone empty) ns (all_own ns tree) in
      rw (same, any_there is_required, any_there is_checked) refl

  pub alone_required : is_empty_text (name_of ns n.key) ≡ true → true ≡ is_required n → not (is_checked n) ≡ is_group_missing ns n.key
  alone_required empty required = ap (λ (b : Bool). b && not (is_checked n)) required ∙ sym (alone_lacks empty)

  pub alone_optional : is_empty_text (name_of ns n.key) ≡ true → false ≡ is_required n → false ≡ is_group_missing ns n.key
  alone_optional empty optional = ap (λ (b : Bool). b && not (is_checked n)) optional ∙ sym (alone_lacks empty)

  -- what the entered group lacks
  pub entered_lacks : (entries : Entries) → AreGroupsAmong ns entries ns → (owner : Option Key) (name : List ℕ) → owner ≡ owner_of ns n.key → name ≡ name_of ns n.key → false ≡ (length name == 0) → is_missing (group_of entries owner name) ≡ is_group_missing ns n.key
  entered_lacks entries stand owner name owns named h =
      ap is_missing (stand owner name (is_group ns tree n.key owner name owns h))
      ∙ ap (λ (o : Option Key). is_missing (members_among ns o name ns)) owns
      ∙ ap (λ (s : List ℕ). is_missing (members_among ns (owner_of ns n.key) s ns)) named
      ∙ group_lacks (subst (λ (s : List ℕ). is_empty_text s ≡ false) named (filled_name name h))

  -- ---- who is a member

  pub alone_listed : is_empty_text (name_of ns n.key) ≡ true → map (λ (m : Node). m.key) (radio_group ns n.key) ≡ n.key ∷ []
  alone_listed empty = ap (map (λ (m : Node). m.key)) (filter_own ns (λ (m : Node). share_group ns n.key m.key) (is_key n.key) (alone empty) ns (all_own ns tree) ∙ placed (place_of ns n.key) refl)
    where
      placed : (o : Option ℕ) → place_of ns n.key ≡ o → filter (is_key n.key) ns ≡ n ∷ []
      placed None e = absurd (none-some n (sym (at_key_place ns n.key ∙ ap (option_and_then (slice_get ns)) e) ∙ own))
      placed (Some i) e =
          let there : slice_get ns i ≡ Some n = sym (at_key_place ns n.key ∙ ap (option_and_then (slice_get ns)) e) ∙ own in
          only_there (is_key n.key) ns i n there (same_key-refl n.key) (λ j m at same. same_Some j i (sym (at_place ns tree j m at).1 ∙ ap (place_of ns) (sym (key_same n.key m.key same)) ∙ e))

  pub entered_listed : (entries : Entries) → AreGroupsAmong ns entries ns → (owner : Option Key) (name : List ℕ) → owner ≡ owner_of ns n.key → name ≡ name_of ns n.key → false ≡ (length name == 0) → keys_of (group_of entries owner name) ≡ map (λ (m : Node). m.key) (radio_group ns n.key)
  entered_listed entries stand owner name owns named h =
      let filled : is_empty_text (name_of ns n.key) ≡ false = subst (λ (s : List ℕ). is_empty_text s ≡ false) named (filled_name name h) in
      let same = filter_own ns (λ (m : Node). share_group ns n.key m.key) (is_in_group ns (owner_of ns n.key) (name_of ns n.key)) (shared filled) ns (all_own ns tree) in
      ap keys_of (stand owner name (is_group ns tree n.key owner name owns h))
      ∙ ap (λ (o : Option Key). keys_of (members_among ns o name ns)) owns
      ∙ ap (λ (s : List ℕ). keys_of (members_among ns (owner_of ns n.key) s ns)) named
      ∙ keys_of_members (filter (is_in_group ns (owner_of ns n.key) (name_of ns n.key)) ns)
      ∙ ap (map (λ (m : Node). m.key)) (sym same)
