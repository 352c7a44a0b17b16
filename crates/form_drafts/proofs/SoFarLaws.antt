-- The elements so far, made of those of the page and of those that have changed.
use Rattle.std.proofs.Common.{◌≡◌, ℕ, ◌==◌, Bool, true, false, cond, List, [], ◌∷◌, ◌++◌, map, Option, Some, None, IsSome, length, take, ◌+◌, ◌-◌, unwrap_or, arith, refl, sym, ap, ap₂, ◌∙◌, subst}
use Rattle.std.specs.BTreeMap.{get}
use Rattle.std.specs.List.{filter, list_any}
use Rattle.std.specs.Option.{option_map, option_map_or}
use Rattle.std.specs.Ordering.{nat_cmp}
use Rattle.std.specs.Cmp.{unsigned_tied}
use Rattle.std.proofs.lemmas.Bool.{cond_both, or_parts}
use Rattle.std.proofs.Math.Seq.{take-append_seam}
use Rattle.std.proofs.lemmas.List.{length-append}
use Rattle.std.proofs.lemmas.List.Elements.{All-map, All-weaker}
use Rattle.std.proofs.lemmas.Option.{none-some, same_Some}
use Rattle.form_tree.proofs.Laws.{at_key_image, found_key, key_same, names_still_differ, select_of_image}
use Rattle.form_tree.specs.declared.node.Key.{Key}
use Rattle.form_tree.specs.declared.node.Node.{Node}
use Rattle.form_tree.specs.Attributes.{attrs_with, set_attr}
use Rattle.form_tree.specs.Elements.{same_key}
use Rattle.form_tree.specs.RadioGroup.{radio_group, share_group}
use Rattle.form_tree.specs.Selects.{is_option_of, options, select_of}
use Rattle.form_tree.specs.Tree.{IsTree, IsTreeShape, NamesDiffer, Nodes, at_key, is_key, is_named, shape_of, with_node}
use Rattle.form_page.specs.declared.edit.Edit.{Edit}
use Rattle.form_page.specs.declared.edit.Edit.TheVariants.{Attr, Gone, Put, Text}
use Rattle.form_page.specs.declared.file.File.{File}
use Rattle.form_page.specs.Editing.{after_edit, edited, edited_key, files_after, nodes_after}
use Rattle.form_page.specs.Page.{Page}
use Rattle.form_drafts.proofs.DraftLaws.{no_edits, one_more, same_changed}
use Rattle.form_drafts.specs.Drafts.{AreChanges, AreEditsTo, AreFramed, Changed, HaveGroupsOf, IsMadeBy, IsWith, framed, node_so_far, nodes_so_far}

-- each that has changed stands at its own key
abbrev HasKeys : Changed → Type 0
HasKeys changed = (k : Key) (n : Node) → get nat_cmp changed k.0 ≡ Some n → n.key ≡ k

-- ---- one element so far

own_key : (changed : Changed) → HasKeys changed → (n : Node) → (node_so_far changed n).key ≡ n.key
own_key changed keys n = go (get nat_cmp changed n.key.0) refl
  where
    go : (o : Option Node) → get nat_cmp changed n.key.0 ≡ o → (unwrap_or o n).key ≡ n.key
    go None e = refl
    go (Some m) e = keys n.key m e

-- where nothing has changed
pub nothing_so_far : (ns : Nodes) (changed : Changed) → changed.entries ≡ [] → nodes_so_far ns changed ≡ ns
nothing_so_far [] changed none = refl
nothing_so_far (n ∷ ns) changed none = ap₂ (λ (m : Node) (rest : Nodes). m ∷ rest) (rw none refl) (nothing_so_far ns changed none)

module _ (page : Nodes) (changed : Changed) (keys : HasKeys changed) (k : Key) where
  -- what stands at a key
  pub none_so_far : None ≡ at_key page k → None ≡ at_key (nodes_so_far page changed) k
  none_so_far none = sym (at_key_image (node_so_far changed) (own_key changed keys) page k ∙ ap (option_map (node_so_far changed)) (sym none))

  module _ (n : Node) (found : Some n ≡ at_key page k) where
    at_so_far : at_key (nodes_so_far page changed) k ≡ Some (unwrap_or (get nat_cmp changed k.0) n)
    at_so_far =
        at_key_image (node_so_far changed) (own_key changed keys) page k ∙ ap (option_map (node_so_far changed)) (sym found)
        ∙ ap (λ (j : Key). Some (unwrap_or (get nat_cmp changed j.0) n)) (found_key page k n (sym found))

    pub changed_so_far : (m : Node) → Some m ≡ get nat_cmp changed k.0 → Some m ≡ at_key (nodes_so_far page changed) k
    changed_so_far m there = ap (λ (o : Option Node). Some (unwrap_or o n)) there ∙ sym at_so_far

    pub same_so_far : None ≡ get nat_cmp changed k.0 → Some n ≡ at_key (nodes_so_far page changed) k
    same_so_far there = ap (λ (o : Option Node). Some (unwrap_or o n)) there ∙ sym at_so_far

-- ---- one more has changed

module _ (changed with_next : Changed) (next : Node) (keys : HasKeys changed) (told : IsWith changed next with_next) where
  one_so_far : (ns : Nodes) → nodes_so_far ns with_next ≡ with_node (nodes_so_far ns changed) next.key (λ m. next)
  one_so_far [] = refl
  one_so_far (n ∷ ns) = ap₂ (λ (m : Node) (rest : Nodes). m ∷ rest) one (one_so_far ns)
    where
      both : (b : Bool) → unwrap_or (cond b (Some next) (get nat_cmp changed n.key.0)) n ≡ cond b next (node_so_far changed n)
      both true = refl
      both false = refl

      one : node_so_far with_next n ≡ cond (is_key next.key (node_so_far changed n)) next (node_so_far changed n)
      one =
          ap (λ (o : Option Node). unwrap_or o n) (told n.key.0)
          ∙ ap (λ (b : Bool). unwrap_or (cond b (Some next) (get nat_cmp changed n.key.0)) n) (unsigned_tied next.key.0 n.key.0)
          ∙ both (next.key.0 == n.key.0)
          ∙ ap (λ (j : Key). cond (next.key.0 == j.0) next (node_so_far changed n)) (sym (own_key changed keys n))

  keys_still : HasKeys with_next
  keys_still k m found = go (next.key.0 == k.0) refl (ap (λ (b : Bool). cond b (Some next) (get nat_cmp changed k.0)) (sym (unsigned_tied next.key.0 k.0)) ∙ sym (told k.0) ∙ found)
    where
      go : (b : Bool) → (next.key.0 == k.0) ≡ b → cond b (Some next) (get nat_cmp changed k.0) ≡ Some m → m.key ≡ k
      go true e h = subst (λ (x : Node). x.key ≡ k) (same_Some next m h) (key_same next.key k e)
      go false e h = keys k m h

-- ---- what raw changes leave

-- a change of one element that keeps its key and its parent, and the names of its attributes apart
tree_with : (f : Node → Node) → ((n : Node) → (f n).key ≡ n.key) → ((n : Node) → (f n).parent ≡ n.parent) → ((n : Node) → NamesDiffer n.attrs → NamesDiffer (f n).attrs) → (ns : Nodes) (k : Key) → IsTree ns → IsTree (with_node ns k f)
tree_with f keys parents names ns k tree = record {
  shape = subst IsTreeShape (sym (shape_with ns)) tree.shape;
  names = All-map (λ n. NamesDiffer n.attrs) (λ n. cond (is_key k n) (f n) n) ns (All-weaker (λ n. NamesDiffer n.attrs) (λ n. NamesDiffer (cond (is_key k n) (f n) n).attrs) (λ n h. cond_both (is_key k n) (f n) n (λ m. NamesDiffer m.attrs) (λ _. names n h) (λ _. h)) ns tree.names);
}
  where
    shape_with : (xs : Nodes) → shape_of (with_node xs k f) ≡ shape_of xs
    shape_with [] = refl
    shape_with (n ∷ xs) = ap₂ (λ (entry : Key × Option Key) (rest : List (Key × Option Key)). entry ∷ rest)
        (cond_both (is_key k n) (f n) n (λ (m : Node). ◌≡◌ {A = Key × Option Key} (m.key, m.parent) (n.key, n.parent)) (λ _. rw (keys n, parents n) refl) (λ _. refl)) (shape_with xs)

edit_tree : (ns : Nodes) (edit : Edit) → IsTree ns → IsTree (nodes_after ns edit)
edit_tree ns (Attr k name value) tree = tree_with (set_attr name value) (λ n. refl) (λ n. refl) (λ n h. names_still_differ name value n.attrs h) ns k tree
edit_tree ns (Text k text) tree = tree_with (λ n. record n { text = text }) (λ n. refl) (λ n. refl) (λ n h. h) ns k tree
edit_tree ns (Put k state) tree = tree_with (λ n. record n { state = state }) (λ n. refl) (λ n. refl) (λ n h. h) ns k tree
edit_tree ns (Gone file) tree = tree

edits_tree : (page : Page) (edits : List Edit) → IsTree page.tree.nodes → IsTree (edited page edits).tree.nodes
edits_tree page [] tree = tree
edits_tree page (edit ∷ edits) tree = edits_tree (after_edit page edit) edits (edit_tree page.tree.nodes edit tree)

framed_with : (f : Node → Node) → ((n : Node) → framed (f n) ≡ framed n) → (ns : Nodes) (k : Key) → AreFramed (with_node ns k f) ns
framed_with f same [] k = refl
framed_with f same (n ∷ ns) k = ap₂ (λ (m : Node) (rest : Nodes). m ∷ rest) (cond_both (is_key k n) (f n) n (λ (m : Node). framed m ≡ framed n) (λ _. same n) (λ _. refl)) (framed_with f same ns k)

edit_framed : (ns : Nodes) (edit : Edit) → AreFramed (nodes_after ns edit) ns
edit_framed ns (Attr k name value) = framed_with (set_attr name value) (λ n. refl) ns k
edit_framed ns (Text k text) = framed_with (λ n. record n { text = text }) (λ n. refl) ns k
edit_framed ns (Put k state) = framed_with (λ n. record n { state = state }) (λ n. refl) ns k
edit_framed ns (Gone file) = refl

edits_framed : (page : Page) (edits : List Edit) → AreFramed (edited page edits).tree.nodes page.tree.nodes
edits_framed page [] = refl
edits_framed page (edit ∷ edits) = edits_framed (after_edit page edit) edits ∙ edit_framed page.tree.nodes edit

-- ---- the draft

pub no_changes : (page : Page) (changed : Changed) (edits : List Edit) → changed.entries ≡ [] → edits ≡ [] → AreChanges page changed edits
no_changes page changed edits none no_edit = record {
  keys = λ k n found. absurd (none-some n (sym (nothing_at k.0) ∙ found));
  makes = no_edits page (nodes_so_far page.tree.nodes changed) edits (nothing_so_far page.tree.nodes changed none) no_edit;
}
  where
    nothing_at : (q : ℕ) → get nat_cmp changed q ≡ None
    nothing_at q = rw none refl

module _ (page : Page) (changed : Changed) (edits : List Edit) (are : AreChanges page changed edits) where
  pub tree_so_far : IsTree page.tree.nodes → IsTree (nodes_so_far page.tree.nodes changed)
  tree_so_far tree = subst (λ (p : Page). IsTree p.tree.nodes) are.makes.made (edits_tree page edits tree)

  pub framed_so_far : AreFramed (nodes_so_far page.tree.nodes changed) page.tree.nodes
  framed_so_far = ap (λ (p : Page). map framed p.tree.nodes) (sym are.makes.made) ∙ edits_framed page edits

  -- one raw change more
  module _ (with_next : Changed) (next : Node) (told : IsWith changed next with_next) (edit : Edit) (by : IsMadeBy (nodes_so_far page.tree.nodes changed) next edit) where
    pub nodes_made : nodes_so_far page.tree.nodes with_next ≡ nodes_after (nodes_so_far page.tree.nodes changed) edit
    nodes_made = one_so_far changed with_next next are.keys told page.tree.nodes ∙ sym by.made

    pub changes_still : (more : List Edit) → more ≡ edits ++ edit ∷ [] → AreChanges page with_next more
    changes_still more pushed = record {
      keys = keys_still changed with_next next are.keys told;
      makes = one_more page (nodes_so_far page.tree.nodes changed) (nodes_so_far page.tree.nodes with_next) edits more edit next.key are.makes pushed nodes_made (by.files page.files) by.key by.there;
    }

-- the raw changes without the last
pub taken_back : (edits pushed left : List Edit) (edit : Edit) (n : ℕ) → pushed ≡ edits ++ edit ∷ [] → n ≡ length pushed → left ≡ take (n - 1) pushed → left ≡ edits
taken_back edits pushed left edit n last long is =
    let all : length pushed ≡ length (edits ++ edit ∷ []) = ap length last in
    let one : length (edits ++ edit ∷ []) ≡ length edits + 1 = length-append edits (edit ∷ []) in
    let count : n - 1 ≡ length edits = omega (arith, long, all, one) in
    is ∙ ap (λ (m : ℕ). take m pushed) count ∙ ap (take (length edits)) last ∙ take-append_seam edits (edit ∷ [])

-- where nothing has changed after all
pub changes_back : (page : Page) (changed after : Changed) (edits left : List Edit) → AreChanges page changed edits → after.entries ≡ changed.entries → left ≡ edits → AreChanges page after left
changes_back page changed after edits left are same_entries same_edits = record {
  keys = λ k n found. are.keys k n (told k.0 ∙ found);
  makes = subst (AreEditsTo page (nodes_so_far page.tree.nodes after)) (sym same_edits) (subst (λ (ns : Nodes). AreEditsTo page ns edits) (sym (same_nodes page.tree.nodes)) are.makes);
}
  where
    told : (q : ℕ) → get nat_cmp changed q ≡ get nat_cmp after q
    told q = rw same_entries refl

    same_nodes : (ns : Nodes) → nodes_so_far ns after ≡ nodes_so_far ns changed
    same_nodes [] = refl
    same_nodes (n ∷ ns) = ap₂ (λ (m : Node) (rest : Nodes). m ∷ rest) (ap (λ (o : Option Node). unwrap_or o n) (sym (told n.key.0))) (same_nodes ns)

-- a raw change that makes of the element of a key what a change makes of it
pub made_by : (ns : Nodes) → IsTree ns → (k : Key) (n : Node) → Some n ≡ at_key ns k → (f : Node → Node) → ((m : Node) → (f m).key ≡ m.key) → (next : Node) → next ≡ f n → (edit : Edit) → edited_key edit ≡ Some k → nodes_after ns edit ≡ with_node ns k f → ((files : List File) → files_after files edit ≡ files) → IsMadeBy ns next edit
made_by ns tree k n found f keys next is edit of made files =
    let own : next.key ≡ k = ap (λ (m : Node). m.key) is ∙ keys n ∙ found_key ns k n (sym found) in
    record {
      there = subst (λ (j : Key). IsSome (at_key ns j)) (sym own) (subst (λ (o : Option Node). IsSome o) found refl);
      key = of ∙ ap (λ (j : Key). Some j) (sym own);
      made = made ∙ same_changed ns tree k n (sym found) f (λ m. next) (sym is) ∙ ap (λ (j : Key). with_node ns j (λ m. next)) (sym own);
      files = files;
    }

-- ---- an attribute set

abbrev Attrs : Type 0
Attrs = List (List ℕ × List ℕ)

attr_new : (name value : List ℕ) (attrs : Attrs) → list_any (is_named name) attrs ≡ false → map (λ attr. cond (is_named name attr) (attr.0, value) attr) attrs ≡ attrs
attr_new name value [] none = refl
attr_new name value (attr ∷ attrs) none =
    let parts = or_parts (is_named name attr) (list_any (is_named name) attrs) none in
    ap₂ (λ (a : List ℕ × List ℕ) (rest : Attrs). a ∷ rest) (ap (λ (b : Bool). cond b (attr.0, value) attr) parts.0) (attr_new name value attrs parts.1)

module _ (name value : List ℕ) (attrs renewed : Attrs) (is : renewed ≡ map (λ attr. cond (is_named name attr) (attr.0, value) attr) attrs) where
  abbrev put : Bool → Attrs
  put there = cond there (map (λ attr. cond (is_named name attr) (attr.0, value) attr) attrs) (attrs ++ (name, value) ∷ [])

  pub attr_renewed : true ≡ list_any (is_named name) attrs → renewed ≡ attrs_with attrs name (Some value)
  attr_renewed there = is ∙ ap put there

  pub attr_pushed : false ≡ list_any (is_named name) attrs → (n v : List ℕ) → n ≡ name → v ≡ value → (pushed : Attrs) → pushed ≡ renewed ++ (n, v) ∷ [] → pushed ≡ attrs_with attrs name (Some value)
  attr_pushed there n v named valued pushed last =
      last ∙ ap (λ (xs : Attrs). xs ++ (n, v) ∷ []) (is ∙ attr_new name value attrs (sym there))
      ∙ ap₂ (λ (x y : List ℕ). attrs ++ (x, y) ∷ []) named valued ∙ ap put there

-- ---- what elements have in common with those of the page

abbrev all_keys : Nodes → List Key
all_keys ns = map (λ n. n.key) ns

keys_filtered : (g : Key → Bool) (ns : Nodes) → all_keys (filter (λ n. g n.key) ns) ≡ filter g (all_keys ns)
keys_filtered g [] = refl
keys_filtered g (n ∷ ns) = go (g n.key) (keys_filtered g ns)
  where
    go : (b : Bool) → all_keys (filter (λ m. g m.key) ns) ≡ filter g (all_keys ns) → all_keys (cond b (n ∷ filter (λ m. g m.key) ns) (filter (λ m. g m.key) ns)) ≡ cond b (n.key ∷ filter g (all_keys ns)) (filter g (all_keys ns))
    go true more = ap (λ (rest : List Key). n.key ∷ rest) more
    go false more = more

filter_tests : (g h : Key → Bool) (ks : List Key) → ((j : Key) → g j ≡ h j) → filter g ks ≡ filter h ks
filter_tests g h [] same = refl
filter_tests g h (k ∷ ks) same = ap₂ (λ (b : Bool) (rest : List Key). cond b (k ∷ rest) rest) (same k) (filter_tests g h ks same)

-- the keys of those that pass, where keys and tests are the same
pub keys_passing : (g h : Key → Bool) (t u : Nodes) → all_keys t ≡ all_keys u → ((j : Key) → g j ≡ h j) → all_keys (filter (λ n. g n.key) t) ≡ all_keys (filter (λ n. h n.key) u)
keys_passing g h t u same tests = keys_filtered g t ∙ filter_tests g h (all_keys t) tests ∙ ap (filter h) same ∙ sym (keys_filtered h u)

keys_framed : (ns : Nodes) → all_keys (map framed ns) ≡ all_keys ns
keys_framed [] = refl
keys_framed (n ∷ ns) = ap (λ (rest : List Key). n.key ∷ rest) (keys_framed ns)

module _ (u t : Nodes) (like : AreFramed u t) where
  pub frame_keys : all_keys t ≡ all_keys u
  frame_keys = sym (keys_framed t) ∙ ap all_keys (sym like) ∙ keys_framed u

  -- nothing stands at a key so far where nothing stood
  pub frame_none : (k : Key) → at_key t k ≡ None → at_key u k ≡ None
  frame_none k none = go (at_key u k) (sym (at_key_image framed (λ n. refl) u k) ∙ ap (λ (ns : Nodes). at_key ns k) like ∙ at_key_image framed (λ n. refl) t k ∙ ap (option_map framed) none)
    where
      go : (o : Option Node) → option_map framed o ≡ None → o ≡ None
      go None h = refl
      go (Some n) h = absurd (none-some (framed n) (sym h))

  pub frame_select : (k : Key) → select_of t k ≡ select_of u k
  frame_select k = sym (select_of_image framed (λ n. refl) (λ n. refl) (λ n. refl) t k) ∙ ap (λ (ns : Nodes). select_of ns k) (sym like) ∙ select_of_image framed (λ n. refl) (λ n. refl) (λ n. refl) u k

  pub frame_options : (s : Key) → all_keys (options t s) ≡ all_keys (options u s)
  frame_options s = keys_passing (is_option_of t s) (is_option_of u s) t u frame_keys (λ j. ap (λ (o : Option Key). option_map_or (same_key s) o false) (frame_select j))

  pub frame_group : HaveGroupsOf u t → (k : Key) → all_keys (radio_group t k) ≡ all_keys (radio_group u k)
  frame_group groups k = keys_passing (share_group t k) (share_group u k) t u frame_keys (λ j. sym (groups k j))
