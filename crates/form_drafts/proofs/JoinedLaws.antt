-- The group of a radio button so far is found among the page's group of its owner and name, and those
-- that may have come to it.
use Rattle.std.proofs.Common.{◌≡◌, ℕ, ◌++◌, Bool, true, false, not, ◌&&◌, ◌||◌, cond, List, [], ◌∷◌, length, map, take, ◌≤◌, get_or, Option, Some, None, Result, unwrap_or, refl, sym, ap, ap₂, ◌∙◌, subst, codes}
use Rattle.std.specs.BTreeMap.{get}
use Rattle.std.specs.List.{filter, flat_map}
use Rattle.std.specs.Option.{option_and_then, option_map, option_map_or}
use Rattle.std.specs.Ordering.{nat_cmp}
use Rattle.std.specs.Result.{OnOk}
use Rattle.std.specs.Str.{bytes_eq}
use Rattle.std.proofs.lemmas.Bool.{and_parts, cond_both, or_left, or_parts, or_right}
use Rattle.std.proofs.lemmas.List.Folds.{list_any-append}
use Rattle.std.proofs.lemmas.List.{take_all}
use Rattle.std.proofs.lemmas.Option.{none-some, same_Some}
use Rattle.std.proofs.lemmas.Result.{on_ok_weaker}
use Rattle.form_tree.proofs.Laws.{at_key_image, found_key, key_same, passes_there, same_key-sym}
use Rattle.form_tree.specs.declared.node.Key.{Key}
use Rattle.form_tree.specs.declared.node.Node.{Node}
use Rattle.form_tree.specs.Attributes.{set_attr}
use Rattle.form_tree.specs.Elements.{is_among, is_empty_text, passes, same_key, same_owner}
use Rattle.form_tree.specs.Ownership.{owner_of}
use Rattle.form_tree.specs.RadioGroup.{is_checked, is_radio, name_of, same_name, share_group}
use Rattle.form_tree.specs.Tree.{Nodes, at_key, attr_in, is_key}
use Rattle.form_owner.specs.declared.moves.Move.{Move}
use Rattle.form_page.specs.declared.edit.Edit.{Edit}
use Rattle.form_page.specs.declared.edit.Edit.TheVariants.{Attr, Gone, Put, Text}
use Rattle.form_page.specs.Editing.{after_edit, edited, nodes_after}
use Rattle.form_page.specs.Members.{is_in_group, radios_of}
use Rattle.form_page.specs.Page.{Page}
use Rattle.form_page.specs.Settling.{changed_but, off, with_radio}
use Rattle.form_drafts.proofs.DraftLaws.{all_same}
use Rattle.form_drafts.proofs.EachLaws.{each_made}
use Rattle.form_drafts.proofs.LikeLaws.{bare_same, off_once}
use Rattle.form_drafts.proofs.Mild.{IsMild, changed_where, through_radio}
use Rattle.form_drafts.specs.Drafts.{AreEditsTo, AreLikeBut, AreOwnedBy, Draft, Moved, bare, becomes_by, renamed_in, with_each}
use Rattle.form_drafts.specs.Joined.{AreOthers, NoneMovedBut, is_other, named_alike}

abbrev keys : Nodes → List Key
keys ns = map (λ n. n.key) ns

-- ---- lists of keys

among_append : (xs ys : List Key) (j : Key) → is_among (xs ++ ys) j ≡ (is_among xs j || is_among ys j)
among_append xs ys j = list_any-append (λ k. same_key j k) xs ys

among_filter : (h : Key → Bool) (ks : List Key) (j : Key) → is_among (filter h ks) j ≡ (is_among ks j && h j)
among_filter h [] j = refl
among_filter h (k ∷ ks) j = go (among_filter h ks j) (h k) refl (same_key j k) refl
  where
    go : is_among (filter h ks) j ≡ (is_among ks j && h j) → (a : Bool) → h k ≡ a → (b : Bool) → same_key j k ≡ b → is_among (cond a (k ∷ filter h ks) (filter h ks)) j ≡ ((b || is_among ks j) && h j)
    go more true e true s = rw s (sym (ap h (key_same j k s) ∙ e))
    go more true e false s = rw s more
    go more false e true s = more ∙ rw (ap h (key_same j k s) ∙ e) (none (is_among ks j))
      where
        none : (b : Bool) → (b && false) ≡ false
        none true = refl
        none false = refl
    go more false e false s = more

-- ---- what raw changes leave

-- a change of all elements that leaves that of a key but for its text and its state
bare_image : (g : Node → Node) → ((n : Node) → (g n).key ≡ n.key) → (ns : Nodes) (k : Key) → ((n : Node) → at_key ns k ≡ Some n → bare (g n) ≡ bare n) → option_map bare (at_key (map g ns) k) ≡ option_map bare (at_key ns k)
bare_image g key ns k same = ap (option_map bare) (at_key_image g key ns k) ∙ go (at_key ns k) refl
  where
    go : (o : Option Node) → at_key ns k ≡ o → option_map bare (option_map g o) ≡ option_map bare o
    go None e = refl
    go (Some n) e = ap (λ (m : Node). Some m) (same n e)

one_bare : (ns : Nodes) (edit : Edit) (k : Key) → is_among (renamed_in edit) k ≡ false → option_map bare (at_key (nodes_after ns edit) k) ≡ option_map bare (at_key ns k)
one_bare ns (Attr j name value) k apart =
    bare_image (λ n. cond (is_key j n) (set_attr name value n) n) (λ n. cond_both (is_key j n) (set_attr name value n) n (λ m. m.key ≡ n.key) (λ _. refl) (λ _. refl)) ns k
    (λ n found. ap bare (ap (λ (b : Bool). cond b (set_attr name value n) n) (other n found)))
  where
    other : (n : Node) → at_key ns k ≡ Some n → is_key j n ≡ false
    other n found = ap (same_key j) (found_key ns k n found) ∙ same_key-sym j k ∙ (or_parts (same_key k j) false apart).0
one_bare ns (Text j text) k apart =
    bare_image (λ n. cond (is_key j n) (record n { text = text }) n) (λ n. cond_both (is_key j n) (record n { text = text }) n (λ m. m.key ≡ n.key) (λ _. refl) (λ _. refl)) ns k
    (λ n found. cond_both (is_key j n) (record n { text = text }) n (λ m. bare m ≡ bare n) (λ _. refl) (λ _. refl))
one_bare ns (Put j state) k apart =
    bare_image (λ n. cond (is_key j n) (record n { state = state }) n) (λ n. cond_both (is_key j n) (record n { state = state }) n (λ m. m.key ≡ n.key) (λ _. refl) (λ _. refl)) ns k
    (λ n found. cond_both (is_key j n) (record n { state = state }) n (λ m. bare m ≡ bare n) (λ _. refl) (λ _. refl))
one_bare ns (Gone file) k apart = refl

pub edits_bare : (page : Page) (edits : List Edit) → AreLikeBut (edited page edits).tree.nodes page.tree.nodes (flat_map renamed_in edits)
edits_bare page [] k apart = refl
edits_bare page (edit ∷ edits) k apart =
    let parts = or_parts (is_among (renamed_in edit) k) (is_among (flat_map renamed_in edits) k) (sym (among_append (renamed_in edit) (flat_map renamed_in edits) k) ∙ apart) in
    edits_bare (after_edit page edit) edits k parts.1 ∙ one_bare page.tree.nodes edit k parts.0

-- and radio buttons that are taken
like_mild : (t : Nodes) (ks : List Key) (f : Node → Node) → IsMild f → (test : Node → Bool) (u : Nodes) → AreLikeBut u t ks → AreLikeBut (changed_where test f u) t ks
like_mild t ks f mild test u like k apart =
    bare_image (λ n. cond (test n) (f n) n) (λ n. cond_both (test n) (f n) n (λ m. m.key ≡ n.key) (λ _. mild.key n) (λ _. refl)) u k
    (λ n found. cond_both (test n) (f n) n (λ m. bare m ≡ bare n) (λ _. bare_same n (f n) (mild.key n) (mild.parent n) (mild.tag n) (mild.attrs n)) (λ _. refl))
    ∙ like k apart

pub like_after_radio : (t : Nodes) (ks : List Key) (u : Nodes) (k : Key) → AreLikeBut u t ks → AreLikeBut (with_radio u k) t ks
like_after_radio t ks u k like = through_radio (λ ns. AreLikeBut ns t ks) (like_mild t ks) u k like

pub like_taken : (draft next : Draft) (k : Key) (ks : List Key) → next ≡ record draft { nodes = with_radio draft.nodes k } → AreLikeBut draft.nodes draft.page.tree.nodes ks → AreLikeBut next.nodes next.page.tree.nodes ks
like_taken draft next k ks made like = subst (λ (d : Draft). AreLikeBut d.nodes d.page.tree.nodes ks) (sym made) (like_after_radio draft.page.tree.nodes ks draft.nodes k like)

-- ---- who has joined

like_more : (u t : Nodes) (ks more : List Key) → AreLikeBut u t ks → AreLikeBut u t (ks ++ more)
like_more u t ks more like k apart = like k ((or_parts (is_among ks k) (is_among more k) (sym (among_append ks more k) ∙ apart)).0)

none_becomes : (moves : List Move) (k : Key) → is_among (map (λ m. m.key) moves) k ≡ false → (o : Option (Option Key)) → becomes_by moves o k ≡ o
none_becomes [] k apart o = refl
none_becomes (m ∷ ms) k apart o =
    let parts = or_parts (same_key k m.key) (is_among (map (λ x. x.key) ms) k) apart in
    ap (λ (b : Bool). becomes_by ms (cond b (Some m.becomes) o) k) (same_key-sym m.key k ∙ parts.0) ∙ none_becomes ms k parts.1 o

pub joined_like : (draft : Draft) (renamed ks : List Key) (moves : List Move) → AreLikeBut draft.nodes draft.page.tree.nodes renamed → ks ≡ renamed ++ map (λ m. m.key) moves → (lent : List Key) → lent ≡ ks → AreLikeBut draft.nodes draft.page.tree.nodes lent
joined_like draft renamed ks moves like are lent is =
    subst (AreLikeBut draft.nodes draft.page.tree.nodes) (sym (is ∙ are)) (like_more draft.nodes draft.page.tree.nodes renamed (map (λ m. m.key) moves) like)

pub joined_moved : (moved : Moved) (moves : List Move) → ((k : Key) → get nat_cmp moved k.0 ≡ becomes_by moves None k) → (renamed ks : List Key) → ks ≡ renamed ++ map (λ m. m.key) moves → (lent : List Key) → lent ≡ ks → NoneMovedBut moved lent
joined_moved moved moves told renamed ks are lent is k apart =
    let parts = or_parts (is_among renamed k) (is_among (map (λ m. m.key) moves) k) (sym (among_append renamed (map (λ m. m.key) moves) k) ∙ ap (λ (xs : List Key). is_among xs k) (sym (is ∙ are)) ∙ apart) in
    told k ∙ none_becomes moves k parts.1 None

pub none_joined : (moved : Moved) (ks : List Key) → moved.entries ≡ [] → NoneMovedBut moved ks
none_joined moved ks none k apart = rw none refl

-- ---- the others of a group

-- who stands at a key and passes is found
found_among : (p : Node → Bool) (xs : Nodes) (j : Key) (m : Node) → at_key xs j ≡ Some m → p m ≡ true → is_among (keys (filter p xs)) j ≡ true
found_among p [] j m found holds = absurd (none-some m found)
found_among p (x ∷ xs) j m found holds = go (found_among p xs j m) (is_key j x) refl found
  where
    past : is_among (keys (filter p xs)) j ≡ true → (b : Bool) → is_among (keys (cond b (x ∷ filter p xs) (filter p xs))) j ≡ true
    past more true = or_right (same_key j x.key) (is_among (keys (filter p xs)) j) more
    past more false = more

    go : (at_key xs j ≡ Some m → p m ≡ true → is_among (keys (filter p xs)) j ≡ true) → (b : Bool) → is_key j x ≡ b → cond b (Some x) (at_key xs j) ≡ Some m → is_among (keys (filter p (x ∷ xs))) j ≡ true
    go more true e h = rw (ap p (same_Some x m h) ∙ holds) (or_left (same_key j x.key) (is_among (keys (filter p xs)) j) e)
    go more false e h = past (more h holds) (p x)

bare_radio : (o : Option Node) → option_map_or is_radio (option_map bare o) false ≡ option_map_or is_radio o false
bare_radio None = refl
bare_radio (Some n) = refl

abbrev named : Option Node → List ℕ
named o = unwrap_or (option_and_then (λ attrs. attr_in attrs (codes "name")) (option_map (λ n. n.attrs) o)) []

bare_name : (o : Option Node) → named (option_map bare o) ≡ named o
bare_name None = refl
bare_name (Some n) = refl

module _ (draft : Draft) (moved : Moved) (joined : List Key) (owners : AreOwnedBy draft.nodes draft.page.tree.nodes moved) (like : AreLikeBut draft.nodes draft.page.tree.nodes joined) (none : NoneMovedBut moved joined) (k : Key) where
  abbrev u : Nodes
  u = draft.nodes

  abbrev page : Nodes
  page = draft.page.tree.nodes

  module _ (j : Key) (apart : is_among joined j ≡ false) where
    same_radio : passes is_radio page j ≡ passes is_radio u j
    same_radio = sym (bare_radio (at_key page j)) ∙ ap (λ (o : Option Node). option_map_or is_radio o false) (sym (like j apart)) ∙ bare_radio (at_key u j)

    same_named : name_of page j ≡ name_of u j
    same_named = sym (bare_name (at_key page j)) ∙ ap named (sym (like j apart)) ∙ bare_name (at_key u j)

    same_owned : owner_of page j ≡ owner_of u j
    same_owned = sym (owners j ∙ ap (λ (o : Option (Option Key)). unwrap_or o (owner_of page j)) (none j apart))

    -- another of the group that has not joined has the owner and the name in the page
    still_there : is_other u k j ≡ true → is_among (named_alike draft k) j ≡ true
    still_there other =
        let parts = and_parts (share_group u k j) (not (same_key k j)) other in
        let shared = and_parts (passes is_radio u k && passes is_radio u j) (same_key k j || (same_owner (owner_of u k) (owner_of u j) && same_name (name_of u k) (name_of u j))) parts.0 in
        let both = and_parts (passes is_radio u k) (passes is_radio u j) shared.0 in
        let alike = and_parts (same_owner (owner_of u k) (owner_of u j)) (same_name (name_of u k) (name_of u j)) (apart_from (same_key k j) parts.1 shared.1) in
        let names = and_parts (not (is_empty_text (name_of u k))) (bytes_eq (name_of u k) (name_of u j)) alike.1 in
        let there = passes_there is_radio page j (same_radio ∙ both.1) in
        let own = found_key page j there.0 there.1 in
        listed (is_empty_text (name_of u k)) names.0
        (found_among (is_in_group page (owner_of u k) (name_of u k)) page j there.0 there.1
        (rw (there.2, own, same_owned, same_named, alike.0, names.1) refl))
      where
        apart_from : (b : Bool) {c : Bool} → not b ≡ true → (b || c) ≡ true → c ≡ true
        apart_from true n h = absurd (cc)
        apart_from false n h = h

        listed : (b : Bool) → not b ≡ true → is_among (radios_of page (owner_of u k) (name_of u k)) j ≡ true → is_among (cond b [] (radios_of page (owner_of u k) (name_of u k))) j ≡ true
        listed true n h = absurd (cc)
        listed false n h = h

  -- so who is listed there or has joined, and is another of the group, is each other of the group
  pub others_found : (first second last : List Key) → first ≡ [] → second ≡ first ++ filter (is_other u k) (named_alike draft k) → last ≡ second ++ filter (is_other u k) joined → AreOthers u k last
  others_found first second last begun then done j =
      ap (λ (xs : List Key). is_among xs j) (done ∙ ap (λ (xs : List Key). xs ++ filter (is_other u k) joined) (then ∙ ap (λ (xs : List Key). xs ++ filter (is_other u k) (named_alike draft k)) begun))
      ∙ among_append (filter (is_other u k) (named_alike draft k)) (filter (is_other u k) joined) j
      ∙ ap₂ (λ (a b : Bool). a || b) (among_filter (is_other u k) (named_alike draft k) j) (among_filter (is_other u k) joined j)
      ∙ go (is_other u k j) refl (is_among joined j) refl
    where
      neither : (a b : Bool) → ((a && false) || (b && false)) ≡ false
      neither true true = refl
      neither true false = refl
      neither false true = refl
      neither false false = refl

      either : (a : Bool) → ((a && true) || (true && true)) ≡ true
      either true = refl
      either false = refl

      go : (h : Bool) → is_other u k j ≡ h → (b : Bool) → is_among joined j ≡ b → ((is_among (named_alike draft k) j && h) || (b && h)) ≡ h
      go false e b s = neither (is_among (named_alike draft k) j) b
      go true e true s = either (is_among (named_alike draft k) j)
      go true e false s = rw (still_there j s e) refl

-- ---- the draft after the others were unchecked

others_taken : (u : Nodes) (k : Key) (others : List Key) → passes is_checked u k ≡ true → AreOthers u k others → with_each off u others ≡ with_radio u k
others_taken u k others checked are =
    each_made off off_once u others
    ∙ all_same (λ n. cond (is_among others n.key) (off n) n) (λ n. cond (share_group u k n.key && not (is_key k n)) (off n) n) u
    (λ i d below. ap (λ (b : Bool). cond b (off (get_or u i d)) (get_or u i d)) (are (get_or u i d).key))
    ∙ sym (ap (λ (b : Bool). cond b (changed_but off (share_group u k) k u) u) checked)

pub others_done : {T E : Type 0} (r : Result T E) (draft next : Draft) (k : Key) (others lent : List Key) → true ≡ passes is_checked draft.nodes k → AreOthers draft.nodes k others → lent ≡ others
    → OnOk r (next ≡ record draft { nodes = with_each off draft.nodes lent }) → OnOk r (next ≡ record draft { nodes = with_radio draft.nodes k })
others_done r draft next k others lent checked are is made =
    on_ok_weaker r (λ e. e ∙ ap (λ (ns : Nodes). record draft { nodes = ns }) (ap (with_each off draft.nodes) is ∙ others_taken draft.nodes k others (sym checked) are)) made

-- ---- what a walk over the raw changes finds

pub renamed_like : (page : Page) (ns : Nodes) (edits lent : List Edit) (ks : List Key) (i : ℕ) → AreEditsTo page ns edits → lent ≡ edits → length lent ≤ i → ks ≡ flat_map renamed_in (take i lent) → AreLikeBut ns page.tree.nodes ks
renamed_like page ns edits lent ks i are is past found =
    subst (AreLikeBut ns page.tree.nodes) (sym (found ∙ ap (flat_map renamed_in) (take_all i lent past ∙ is)))
    (subst (λ (p : Page). AreLikeBut p.tree.nodes page.tree.nodes (flat_map renamed_in edits)) are.made (edits_bare page edits))
