-- The draft after an act on one element alone.
use Rattle.std.proofs.Common.{◌≡◌, ℕ, zero, suc, ◌==◌, Bool, true, false, not, ◌&&◌, ◌||◌, cond, List, [], ◌∷◌, ◌<◌, ◌≤◌, length, drop, map, get_or, Option, Some, None, Result, refl, sym, ap, ◌∙◌, subst, arith}
use Rattle.std.specs.List.{filter, list_any}
use Rattle.std.proofs.lemmas.List.{drop_all}
use Rattle.std.specs.Result.{IfOk}
use Rattle.std.proofs.lemmas.Bool.{cond_both, or_left, or_right}
use Rattle.std.proofs.lemmas.List.Folds.{list_any-append}
use Rattle.std.proofs.lemmas.Result.{IfOk-weaker}
use Rattle.form_tree.specs.declared.node.Key.{Key}
use Rattle.form_tree.specs.declared.node.Node.{Node}
use Rattle.form_tree.specs.declared.node.State.{State}
use Rattle.form_tree.specs.Attributes.{set_attr, with_attr, with_text}
use Rattle.form_tree.specs.Elements.{is_among, is_textarea, passes, same_key}
use Rattle.form_tree.proofs.Laws.{same_key-refl}
use Rattle.form_groups.specs.Holders.{held, holders}
use Rattle.form_tree.specs.Tree.{IsTree, Nodes, Tree, at_key, with_node, with_state}
use Rattle.form_page.specs.Page.{Page}
use Rattle.form_changes.proofs.AttrCounts.{IsOwn}
use Rattle.form_drafts.proofs.DraftLaws.{all_same, none_changed, put_changed, same_changed, twice_changed}
use Rattle.form_drafts.proofs.EachLaws.{each_made, numbers_stay, withdraw_once}
use Rattle.form_changes.specs.Changing.{retold, typed, without_file_number}
use Rattle.form_drafts.specs.Drafts.{Draft, draft_of, with_each}
use Rattle.form_changes.specs.Values.{has_kept_value}

-- ---- the text of a user, and values

pub typed_own : (text : List ℕ) (n : Node) → IsOwn n (typed text n)
typed_own text n = cond_both (has_kept_value n) _ _ (λ (m : Node). IsOwn n m) (λ _. refl) (λ _. refl)

-- a state that was made makes what the change makes
pub own_made : (n m : Node) (state : State) → IsOwn n m → state ≡ m.state → record n { state = state } ≡ m
own_made n m state own is = ap (λ (s : State). let x : Node = record n { state = s } in x) is ∙ sym own

pub retold_still : (text : List ℕ) (n : Node) → false ≡ (is_textarea n && not n.state.dirty) → record n { text = text } ≡ retold text n
retold_still text n e = ap (λ (b : Bool). cond b (record n { text = text; state = record n.state { value = text } }) (record n { text = text })) e

pub retold_put : (text : List ℕ) (n : Node) (state : State) → true ≡ (is_textarea n && not n.state.dirty) → state ≡ record n.state { value = text } → record n { text = text; state = state } ≡ retold text n
retold_put text n state e is =
    ap (λ (s : State). let x : Node = record n { text = text; state = s } in x) is
    ∙ ap (λ (b : Bool). cond b (record n { text = text; state = record n.state { value = text } }) (record n { text = text })) e

-- ---- what was read of the tree of a page

pub read_none : (read tree : Tree) → read ≡ tree → (k : Key) → None ≡ at_key read.nodes k → at_key tree.nodes k ≡ None
read_none read tree same k none = ap (λ (t : Tree). at_key t.nodes k) (sym same) ∙ sym none

pub read_some : (read tree : Tree) → read ≡ tree → (k : Key) (n : Node) → Some n ≡ at_key read.nodes k → at_key tree.nodes k ≡ Some n
read_some read tree same k n found = ap (λ (t : Tree). at_key t.nodes k) (sym same) ∙ sym found

pub read_tree : (read tree : Tree) → read ≡ tree → IsTree read.nodes → IsTree tree.nodes
read_tree read tree same is = subst (λ (t : Tree). IsTree t.nodes) same is

pub read_passes : (read tree : Tree) → read ≡ tree → (test : Node → Bool) (k : Key) (b : Bool) → b ≡ passes test read.nodes k → b ≡ passes test tree.nodes k
read_passes read tree same test k b is = is ∙ ap (λ (t : Tree). passes test t.nodes k) same

-- ---- the draft, where a test decides on a step

pub step_still : (page : Page) (draft : Draft) (u v : Nodes) (b : Bool) → draft ≡ draft_of page u → false ≡ b → draft ≡ draft_of page (cond b v u)
step_still page draft u v b is e = is ∙ ap (λ (c : Bool). draft_of page (cond c v u)) e

pub step_made : (page : Page) (draft next : Draft) (u : Nodes) (step : Nodes → Nodes) (b : Bool) → draft ≡ draft_of page u → true ≡ b → next ≡ record draft { nodes = step draft.nodes } → next ≡ draft_of page (cond b (step u) u)
step_made page draft next u step b is e made =
    made ∙ ap (λ (d : Draft). let x : Draft = record d { nodes = step d.nodes } in x) is ∙ ap (λ (c : Bool). draft_of page (cond c (step u) u)) e

pub step_after : (page : Page) (draft next : Draft) (u : Nodes) (step : Nodes → Nodes) → draft ≡ draft_of page u → next ≡ record draft { nodes = step draft.nodes } → next ≡ draft_of page (step u)
step_after page draft next u step is made = made ∙ ap (λ (d : Draft). let x : Draft = record d { nodes = step d.nodes } in x) is

-- ---- the draft

module _ (page : Page) (draft : Draft) (begun : draft ≡ draft_of page page.tree.nodes) (read : Tree) (same : read ≡ page.tree) (k : Key) where
  -- where there is no such element
  pub act_nowhere : (f : Node → Node) → None ≡ at_key read.nodes k → draft ≡ draft_of page (with_node page.tree.nodes k f)
  act_nowhere f none = begun ∙ ap (draft_of page) (sym (none_changed page.tree.nodes k f (ap (λ (t : Tree). at_key t.nodes k) (sym same) ∙ sym none)))

  module _ (is_tree : IsTree page.tree.nodes) (n : Node) (found : Some n ≡ at_key read.nodes k) where
    is_there : at_key page.tree.nodes k ≡ Some n
    is_there = ap (λ (t : Tree). at_key t.nodes k) (sym same) ∙ sym found

    -- where a state is put
    pub act_put : (next : Draft) (state : State) (f : Node → Node) → record n { state = state } ≡ f n → next ≡ record draft { nodes = with_state draft.nodes k state } → next ≡ draft_of page (with_node page.tree.nodes k f)
    act_put next state f makes made =
        made ∙ ap (λ (d : Draft). let x : Draft = record d { nodes = with_state d.nodes k state } in x) begun
        ∙ ap (draft_of page) (put_changed page.tree.nodes is_tree k n is_there state f makes)

    -- where an attribute is set
    pub act_attr : {E : Type 0} (r : Result Draft E) (name : List ℕ) (value : Option (List ℕ)) (f : Node → Node) → set_attr name value n ≡ f n → IfOk r (λ next. next ≡ record draft { nodes = with_attr draft.nodes k name value }) → IfOk r (λ next. next ≡ draft_of page (with_node page.tree.nodes k f))
    act_attr r name value f makes made =
        IfOk-weaker r (λ next. next ≡ record draft { nodes = with_attr draft.nodes k name value }) (λ next. next ≡ draft_of page (with_node page.tree.nodes k f))
        (λ next is. is ∙ ap (λ (d : Draft). let x : Draft = record d { nodes = with_attr d.nodes k name value } in x) begun ∙ ap (draft_of page) (same_changed page.tree.nodes is_tree k n is_there (set_attr name value) f makes))
        made

    -- where a text is put
    pub act_text : (next : Draft) (text : List ℕ) (f : Node → Node) → record n { text = text } ≡ f n → next ≡ record draft { nodes = with_text draft.nodes k text } → next ≡ draft_of page (with_node page.tree.nodes k f)
    act_text next text f makes made =
        made ∙ ap (λ (d : Draft). let x : Draft = record d { nodes = with_text d.nodes k text } in x) begun
        ∙ ap (draft_of page) (same_changed page.tree.nodes is_tree k n is_there (λ m. record m { text = text }) f makes)

    -- and then a state
    pub act_text_put : (next last : Draft) (text : List ℕ) (state : State) (f : Node → Node) → record n { text = text; state = state } ≡ f n → next ≡ record draft { nodes = with_text draft.nodes k text } → last ≡ record next { nodes = with_state next.nodes k state } → last ≡ draft_of page (with_node page.tree.nodes k f)
    act_text_put next last text state f makes made put =
        put ∙ ap (λ (d : Draft). let x : Draft = record d { nodes = with_state d.nodes k state } in x) (made ∙ ap (λ (d : Draft). let x : Draft = record d { nodes = with_text d.nodes k text } in x) begun)
        ∙ ap (draft_of page)
        (twice_changed page.tree.nodes k (λ m. record m { text = text }) (λ m. record m { state = state }) (λ m. refl)
        ∙ same_changed page.tree.nodes is_tree k n is_there (λ m. record m { text = text; state = state }) f makes)

-- ---- a file that is withdrawn

pub file_stays : (file : ℕ) (n : Node) → false ≡ list_any (λ number. number == file) n.state.files → without_file_number file n ≡ n
file_stays file n none = ap (λ (fs : List ℕ). let x : Node = record n { state = record n.state { files = fs } } in x) (numbers_stay file n.state.files (sym none))

-- an element that has the file is among those that have it
held_first : (file : ℕ) (n : Node) → list_any (λ number. number == file) n.state.files ≡ true → is_among (held file n) n.key ≡ true
held_first file n has = go n.state.files has
  where
    go : (numbers : List ℕ) → list_any (λ number. number == file) numbers ≡ true → is_among (map (λ (number : ℕ). n.key) (filter (λ number. number == file) numbers)) n.key ≡ true
    go [] h = absurd (cc)
    go (x ∷ xs) h = one (x == file) (go xs) h
      where
        one : (b : Bool) → (list_any (λ number. number == file) xs ≡ true → is_among (map (λ (number : ℕ). n.key) (filter (λ number. number == file) xs)) n.key ≡ true) → (b || list_any (λ number. number == file) xs) ≡ true
            → is_among (map (λ (number : ℕ). n.key) (cond b (x ∷ filter (λ number. number == file) xs) (filter (λ number. number == file) xs))) n.key ≡ true
        one true more e = or_left _ _ (same_key-refl n.key)
        one false more e = more e

held_among : (file : ℕ) (ns : Nodes) (i : ℕ) (d : Node) → i < length ns → list_any (λ number. number == file) (get_or ns i d).state.files ≡ true → is_among (holders ns file) (get_or ns i d).key ≡ true
held_among file [] i d below has = absurd (omega arith)
held_among file (n ∷ ns) zero d below has = list_any-append (λ k. same_key n.key k) (held file n) (holders ns file) ∙ or_left _ _ (held_first file n has)
held_among file (n ∷ ns) (suc i) d below has = list_any-append (λ k. same_key (get_or ns i d).key k) (held file n) (holders ns file) ∙ or_right _ _ (held_among file ns i d (omega arith) has)

-- so it is enough to change these
pub all_left : (file : ℕ) (ns : Nodes) → with_each (without_file_number file) ns (holders ns file) ≡ map (without_file_number file) ns
all_left file ns =
    each_made (without_file_number file) (withdraw_once file) ns (holders ns file)
    ∙ all_same (λ n. cond (is_among (holders ns file) n.key) (without_file_number file n) n) (without_file_number file) ns (λ i d below. one (get_or ns i d) (held_among file ns i d below))
  where
    one : (n : Node) → (list_any (λ number. number == file) n.state.files ≡ true → is_among (holders ns file) n.key ≡ true) → cond (is_among (holders ns file) n.key) (without_file_number file n) n ≡ without_file_number file n
    one n has = go (list_any (λ number. number == file) n.state.files) refl
      where
        go : (b : Bool) → list_any (λ number. number == file) n.state.files ≡ b → cond (is_among (holders ns file) n.key) (without_file_number file n) n ≡ without_file_number file n
        go true e = rw (has e) refl
        go false e = cond_both (is_among (holders ns file) n.key) (without_file_number file n) n (λ m. m ≡ without_file_number file n) (λ _. refl) (λ _. sym (file_stays file n (sym e)))

pub withdrawn : (page : Page) (draft : Draft) (file : ℕ) (ks : List Key) (i : ℕ) → length ks ≤ i → ks ≡ holders page.tree.nodes file
    → record draft { nodes = with_each (without_file_number file) draft.nodes (drop i ks) } ≡ draft_of page (with_each (without_file_number file) page.tree.nodes ks) → draft ≡ draft_of page (map (without_file_number file) page.tree.nodes)
withdrawn page draft file ks i past are made =
    ap (λ (js : List Key). let x : Draft = record draft { nodes = with_each (without_file_number file) draft.nodes js } in x) (sym (drop_all i ks past)) ∙ made
    ∙ ap (draft_of page) (ap (with_each (without_file_number file) page.tree.nodes) are ∙ all_left file page.tree.nodes)
