-- One change more of the elements so far, and changes of one element.
use Rattle.std.proofs.Common.{◌≡◌, ℕ, suc, ◌+◌, ◌<◌, ◌≤◌, drop, add-one, Bool, true, false, cond, List, [], ◌∷◌, ◌++◌, length, map, get_or, Option, Some, None, IsSome, IfSome, Result, is_some, refl, sym, ap, ap₂, ◌∙◌, subst, arith}
use Rattle.std.specs.List.{fold, slice_get}
use Rattle.std.proofs.Math.Seq.{drop-cons}
use Rattle.std.proofs.lemmas.List.{drop_all}
use Rattle.std.specs.Option.{option_and_then, option_map}
use Rattle.std.specs.Result.{OnOk}
use Rattle.std.proofs.lemmas.Result.{on_ok_weaker}
use Rattle.std.proofs.lemmas.Bool.{cond_both}
use Rattle.std.proofs.lemmas.List.Elements.{All-append, All-cons, All-nil}
use Rattle.std.proofs.lemmas.Option.{same_Some}
use Rattle.form_tree.proofs.Laws.{at_key_image, at_key_place, found_passes, key_same}
use Rattle.form_tree.specs.Elements.{same_key}
use Rattle.form_tree.specs.declared.node.Key.{Key}
use Rattle.form_tree.specs.declared.node.Node.{Node}
use Rattle.form_tree.specs.declared.node.State.{State}
use Rattle.form_tree.specs.Attributes.{set_attr, with_attr}
use Rattle.form_tree.specs.Tree.{IsTree, Nodes, at_key, is_key, place_of, with_node, with_state}
use Rattle.form_page.specs.declared.edit.Edit.{Edit}
use Rattle.form_page.specs.declared.edit.Edit.TheVariants.{Attr, Gone, Put, Text}
use Rattle.form_page.specs.declared.file.File.{File}
use Rattle.form_page.specs.Editing.{AreThere, after_edit, edited, edited_key, files_after, nodes_after}
use Rattle.form_page.specs.Page.{Page}
use Rattle.form_drafts.proofs.KeyPlaces.{at_place, keys_differ}
use Rattle.form_drafts.specs.Drafts.{AreEditsTo, Draft, page_with}

-- ---- raw changes

pub edited_last : (page : Page) (edits : List Edit) (edit : Edit) → edited page (edits ++ edit ∷ []) ≡ after_edit (edited page edits) edit
edited_last page [] edit = refl
edited_last page (e ∷ edits) edit = edited_last (after_edit page e) edits edit

-- an element is there still where one was
changed_there : (f : Node → Node) → ((n : Node) → (f n).key ≡ n.key) → (ns : Nodes) (k j : Key) → IsSome (at_key (with_node ns k f) j) → IsSome (at_key ns j)
changed_there f keys ns k j there =
    go (at_key ns j) (subst (λ (o : Option Node). IsSome o) (at_key_image (λ n. cond (is_key k n) (f n) n) (λ n. cond_both (is_key k n) (f n) n (λ m. m.key ≡ n.key) (λ _. keys n) (λ _. refl)) ns j) there)
  where
    go : (o : Option Node) → IsSome (option_map (λ n. cond (is_key k n) (f n) n) o) → IsSome o
    go None h = h
    go (Some n) h = refl

edit_there : (ns : Nodes) (edit : Edit) (j : Key) → IsSome (at_key (nodes_after ns edit) j) → IsSome (at_key ns j)
edit_there ns (Attr k name value) j there = changed_there (set_attr name value) (λ n. refl) ns k j there
edit_there ns (Text k text) j there = changed_there (λ n. record n { text = text }) (λ n. refl) ns k j there
edit_there ns (Put k state) j there = changed_there (λ n. record n { state = state }) (λ n. refl) ns k j there
edit_there ns (Gone file) j there = there

edits_there : (page : Page) (edits : List Edit) (j : Key) → IsSome (at_key (edited page edits).tree.nodes j) → IsSome (at_key page.tree.nodes j)
edits_there page [] j there = there
edits_there page (edit ∷ edits) j there = edit_there page.tree.nodes edit j (edits_there (after_edit page edit) edits j there)

pub placed : (ns : Nodes) (k : Key) → IsSome (at_key ns k) → IsSome (place_of ns k)
placed ns k there = go (place_of ns k) (subst (λ (o : Option Node). IsSome o) (at_key_place ns k) there)
  where
    go : (o : Option ℕ) → IsSome (option_and_then (slice_get ns) o) → IsSome o
    go None h = h
    go (Some i) h = refl

-- what is there so far was there
pub there_before : (page : Page) (ns : Nodes) (edits : List Edit) (k : Key) → AreEditsTo page ns edits → IsSome (at_key ns k) → IsSome (place_of page.tree.nodes k)
there_before page ns edits k are there =
    placed page.tree.nodes k (edits_there page edits k (subst (λ (p : Page). IsSome (at_key p.tree.nodes k)) (sym are.made) there))

-- one raw change more
pub one_more : (page : Page) (ns next : Nodes) (edits more : List Edit) (edit : Edit) (k : Key) → AreEditsTo page ns edits → more ≡ edits ++ edit ∷ [] → next ≡ nodes_after ns edit → files_after page.files edit ≡ page.files → edited_key edit ≡ Some k → IsSome (at_key ns k) → AreEditsTo page next more
one_more page ns next edits more edit k are pushed made files of there = record {
  made = ap (edited page) pushed ∙ edited_last page edits edit ∙ ap (λ (p : Page). after_edit p edit) are.made
      ∙ ap (λ (fs : List File). let p : Page = record { tree = record page.tree { nodes = nodes_after ns edit }; files = fs } in p) files
      ∙ ap (page_with page) (sym made);
  there = subst (AreThere page.tree.nodes) (sym pushed)
      (All-append (λ e. IfSome (edited_key e) (λ j. IsSome (place_of page.tree.nodes j))) edits (edit ∷ []) are.there
      (All-cons (λ e. IfSome (edited_key e) (λ j. IsSome (place_of page.tree.nodes j))) edit []
      (subst (λ (o : Option Key). IfSome o (λ j. IsSome (place_of page.tree.nodes j))) (sym of) (there_before page ns edits k are there))
      (All-nil (λ e. IfSome (edited_key e) (λ j. IsSome (place_of page.tree.nodes j))))));
}

-- no raw change is made of the page itself
pub no_edits : (page : Page) (ns : Nodes) (edits : List Edit) → ns ≡ page.tree.nodes → edits ≡ [] → AreEditsTo page ns edits
no_edits page ns edits same none = record {
  made = ap (edited page) none ∙ ap (page_with page) (sym same);
  there = subst (AreThere page.tree.nodes) (sym none) (All-nil (λ e. IfSome (edited_key e) (λ j. IsSome (place_of page.tree.nodes j))));
}

-- the draft after its last raw change
pub with_gone : (page after : Page) (edits : List Edit) (file : ℕ) (ns : Nodes) → edited page edits ≡ page_with page ns → edited page (edits ++ Gone file ∷ []) ≡ after_edit (page_with page ns) (Gone file)
with_gone page after edits file ns made = edited_last page edits (Gone file) ∙ ap (λ (p : Page). after_edit p (Gone file)) made

-- ---- one element

pub all_same : (f g : Node → Node) (ns : Nodes) → ((i : ℕ) (d : Node) → i < length ns → f (get_or ns i d) ≡ g (get_or ns i d)) → map f ns ≡ map g ns
all_same f g [] same = refl
all_same f g (n ∷ ns) same = ap₂ (λ (m : Node) (rest : Nodes). m ∷ rest) (same 0 n (omega arith)) (all_same f g ns (λ i d below. same (suc i) d (omega arith)))

-- a change of the element of a key, where there is none
pub none_changed : (ns : Nodes) (k : Key) (f : Node → Node) → at_key ns k ≡ None → with_node ns k f ≡ ns
none_changed [] k f none = refl
none_changed (n ∷ ns) k f none = go (none_changed ns k f) (is_key k n) none
  where
    go : (at_key ns k ≡ None → with_node ns k f ≡ ns) → (b : Bool) → cond b (Some n) (at_key ns k) ≡ None → cond b (f n) n ∷ with_node ns k f ≡ n ∷ ns
    go more true h = absurd (cc)
    go more false h = ap (λ (rest : Nodes). n ∷ rest) (more h)

-- two changes of the element of a key that make the same of it
pub same_changed : (ns : Nodes) → IsTree ns → (k : Key) (n : Node) → at_key ns k ≡ Some n → (f g : Node → Node) → f n ≡ g n → with_node ns k f ≡ with_node ns k g
same_changed ns tree k n found f g same = all_same (λ m. cond (is_key k m) (f m) m) (λ m. cond (is_key k m) (g m) m) ns (λ i d below. at (get_or ns i d) (at_place ns (keys_differ ns tree) i d below))
  where
    at : (m : Node) → at_key ns m.key ≡ Some m → cond (is_key k m) (f m) m ≡ cond (is_key k m) (g m) m
    at m own = go (is_key k m) refl
      where
        go : (b : Bool) → is_key k m ≡ b → cond b (f m) m ≡ cond b (g m) m
        go true e =
            let one : Some n ≡ Some m = sym found ∙ ap (at_key ns) (key_same k m.key e) ∙ own in
            subst (λ (x : Node). f x ≡ g x) (same_Some n m one) same
        go false e = refl

-- a state that is put makes what the change makes
pub put_changed : (ns : Nodes) → IsTree ns → (k : Key) (n : Node) → at_key ns k ≡ Some n → (state : State) (f : Node → Node) → record n { state = state } ≡ f n → with_state ns k state ≡ with_node ns k f
put_changed ns tree k n found state f same = same_changed ns tree k n found (λ m. record m { state = state }) f same

-- a change that changes nothing
nothing_changed : (ns : Nodes) (k : Key) → with_node ns k (λ n. n) ≡ ns
nothing_changed [] k = refl
nothing_changed (n ∷ ns) k = ap₂ (λ (m : Node) (rest : Nodes). m ∷ rest) (go (is_key k n)) (nothing_changed ns k)
  where
    go : (b : Bool) → cond b n n ≡ n
    go true = refl
    go false = refl

pub still_changed : (ns : Nodes) → IsTree ns → (k : Key) (n : Node) → at_key ns k ≡ Some n → (f : Node → Node) → f n ≡ n → with_node ns k f ≡ ns
still_changed ns tree k n found f same = same_changed ns tree k n found f (λ m. m) same ∙ nothing_changed ns k

-- one change after another
pub twice_changed : (ns : Nodes) (k : Key) (f g : Node → Node) → ((n : Node) → (f n).key ≡ n.key) → with_node (with_node ns k f) k g ≡ with_node ns k (λ n. g (f n))
twice_changed [] k f g keys = refl
twice_changed (n ∷ ns) k f g keys = ap₂ (λ (m : Node) (rest : Nodes). m ∷ rest) (go (is_key k n) refl) (twice_changed ns k f g keys)
  where
    go : (b : Bool) → is_key k n ≡ b → cond (is_key k (cond b (f n) n)) (g (cond b (f n) n)) (cond b (f n) n) ≡ cond b (g (f n)) n
    go true e = let still : is_key k (f n) ≡ true = ap (λ (j : Key). same_key k j) (keys n) ∙ e in rw still refl
    go false e = rw e refl

-- an attribute set, and then a state put
pub attr_then_put : (ns : Nodes) → IsTree ns → (k : Key) (n : Node) → at_key ns k ≡ Some n → (name : List ℕ) (value : Option (List ℕ)) (state : State) (f : Node → Node) → record (set_attr name value n) { state = state } ≡ f n → with_state (with_attr ns k name value) k state ≡ with_node ns k f
attr_then_put ns tree k n found name value state f same =
    twice_changed ns k (set_attr name value) (λ m. record m { state = state }) (λ m. refl)
    ∙ same_changed ns tree k n found (λ m. record (set_attr name value m) { state = state }) f same

-- what stands at the key after a change of it
pub at_changed : (ns : Nodes) (k : Key) (n : Node) (f : Node → Node) → ((m : Node) → (f m).key ≡ m.key) → at_key ns k ≡ Some n → at_key (with_node ns k f) k ≡ Some (f n)
at_changed ns k n f keys found =
    at_key_image (λ m. cond (is_key k m) (f m) m) (λ m. cond_both (is_key k m) (f m) m (λ x. x.key ≡ m.key) (λ _. keys m) (λ _. refl)) ns k
    ∙ ap (option_map (λ m. cond (is_key k m) (f m) m)) found
    ∙ ap (λ (b : Bool). Some (cond b (f n) n)) (found_passes (is_key k) ns n found)

-- ---- a list of keys, one after another

-- one step more of a list
pub fold_step : (step : Nodes → Key → Nodes) (draft next : Draft) (ks : List Key) (i : ℕ) (k d : Key) → i < length ks → k ≡ get_or ks i d → next ≡ record draft { nodes = step draft.nodes k } → record next { nodes = fold step next.nodes (drop (i + 1) ks) } ≡ record draft { nodes = fold step draft.nodes (drop i ks) }
fold_step step draft next ks i k d below read made =
    rw add-one (
    ap (λ (x : Draft). record x { nodes = fold step x.nodes (drop (suc i) ks) }) made
    ∙ ap (λ (j : Key). record draft { nodes = fold step (step draft.nodes j) (drop (suc i) ks) }) read
    ∙ ap (λ (js : List Key). record draft { nodes = fold step draft.nodes js }) (sym (drop-cons ks i d below)))

-- no step is left
pub fold_done : (step : Nodes → Key → Nodes) (draft : Draft) (ks : List Key) (i : ℕ) → length ks ≤ i → draft ≡ record draft { nodes = fold step draft.nodes (drop i ks) }
fold_done step draft ks i past = ap (λ (js : List Key). record draft { nodes = fold step draft.nodes js }) (sym (drop_all i ks past))

-- ---- the draft after a change of one element

pub none_made : (draft : Draft) (k : Key) (f : Node → Node) → None ≡ at_key draft.nodes k → draft ≡ record draft { nodes = with_node draft.nodes k f }
none_made draft k f none = ap (λ (ns : Nodes). record draft { nodes = ns }) (sym (none_changed draft.nodes k f (sym none)))

pub still_made : (draft : Draft) → IsTree draft.nodes → (k : Key) (n : Node) → Some n ≡ at_key draft.nodes k → (f : Node → Node) → f n ≡ n → draft ≡ record draft { nodes = with_node draft.nodes k f }
still_made draft tree k n found f same = ap (λ (ns : Nodes). record draft { nodes = ns }) (sym (still_changed draft.nodes tree k n (sym found) f same))

-- a state that was put
pub put_made : {T E : Type 0} (r : Result T E) (draft next : Draft) → IsTree draft.nodes → (k : Key) (n : Node) → Some n ≡ at_key draft.nodes k → (state : State) (f : Node → Node) → record n { state = state } ≡ f n → OnOk r (next ≡ record draft { nodes = with_state draft.nodes k state }) → OnOk r (next ≡ record draft { nodes = with_node draft.nodes k f })
put_made r draft next tree k n found state f same made =
    on_ok_weaker r (λ is. is ∙ ap (λ (ns : Nodes). record draft { nodes = ns }) (put_changed draft.nodes tree k n (sym found) state f same)) made

-- whether something stands at a key
pub none_from : (o : Option Node) → false ≡ is_some o → None ≡ o
none_from None e = refl
none_from (Some n) e = absurd (cc)

pub some_from : (o : Option Node) → true ≡ is_some o → IsSome o
some_from None e = absurd (cc)
some_from (Some n) e = refl

abbrev pub no_key : Key
no_key = record { 0 = 0 }

pub fold_next : (step : Nodes → Key → Nodes) (draft next : Draft) (ks : List Key) (i : ℕ) → i < length ks → next ≡ record draft { nodes = step draft.nodes (get_or ks i no_key) } → record next { nodes = fold step next.nodes (drop (i + 1) ks) } ≡ record draft { nodes = fold step draft.nodes (drop i ks) }
fold_next step draft next ks i below made = fold_step step draft next ks i (get_or ks i no_key) no_key below refl made
