-- The steps along the options of a select, by their keys.
use Rattle.std.proofs.Common.{◌≡◌, suc, ◌==◌, Bool, true, false, not, ◌&&◌, cond, List, [], ◌∷◌, ◌++◌, map, get_or, Option, Some, None, Result, refl, sym, ap, ◌∙◌, subst, arith}
use Rattle.std.specs.List.{All, filter, find}
use Rattle.std.specs.Option.{option_map, option_map_or}
use Rattle.std.specs.Result.{OnOk}
use Rattle.std.proofs.lemmas.Result.{on_ok_weaker}
use Rattle.std.specs.Prelude.{reverse}
use Rattle.std.proofs.lemmas.Bool.{both_ways, cond_both}
use Rattle.std.proofs.lemmas.List.Elements.{All-append, All-cons, All-filter, All-nil}
use Rattle.std.proofs.lemmas.List.{reverse-append}
use Rattle.std.proofs.lemmas.Option.{none-some, same_Some}
use Rattle.form_tree.proofs.Laws.{key_same, passes_found}
use Rattle.form_tree.specs.declared.node.Key.{Key}
use Rattle.form_tree.specs.declared.node.Node.{Node}
use Rattle.form_tree.specs.Elements.{is_select, passes, same_key}
use Rattle.form_tree.specs.Selects.{display_size, is_disabled_option, is_multiple, is_option_of, is_selected, options, select_of, share_select}
use Rattle.form_tree.specs.Tree.{IsTree, Nodes, at_key, with_node}
use Rattle.form_select.proofs.Laws.{select_is_one}
use Rattle.form_page.specs.Settling.{changed_but, first_enabled, last_selected, not_selected, now_selected, with_last, with_selectedness, with_selection}
use Rattle.form_drafts.proofs.KeyPlaces.{at_place, keys_differ}
use Rattle.form_drafts.proofs.EachLaws.{IsOnce, find_mapped, find_same, map_reverse, nobody_changed, others_made, passing_made, same_group}
use Rattle.form_drafts.specs.Drafts.{Draft, keys_but, with_each, with_first_of}
use Rattle.form_drafts.specs.Resetting.{reset_option, with_options_reset}

abbrev keys : Nodes → List Key
keys ns = map (λ n. n.key) ns

not_selected_once : IsOnce not_selected
not_selected_once = record { key = λ n. refl; again = λ n. refl }

reset_once : IsOnce reset_option
reset_once = record { key = λ n. refl; again = λ n. refl }

-- ---- the last that passes, found on the way through a list

-- the last that passes, where that is the last before the list
abbrev pub latest : (Key → Bool) → Option Key → List Key → Option Key
latest p last [] = last
latest p last (k ∷ ks) = latest p (cond (p k) (Some k) last) ks

-- the first of two, or the second where there is none
abbrev or_else : Option Key → Option Key → Option Key
or_else None k = k
or_else (Some j) k = Some j

found_more : (p : Key → Bool) (ks : List Key) (k : Key) → find p (ks ++ k ∷ []) ≡ or_else (find p ks) (cond (p k) (Some k) None)
found_more p [] k = refl
found_more p (j ∷ ks) k = go (found_more p ks k) (p j)
  where
    go : find p (ks ++ k ∷ []) ≡ or_else (find p ks) (cond (p k) (Some k) None) → (b : Bool) → cond b (Some j) (find p (ks ++ k ∷ [])) ≡ or_else (cond b (Some j) (find p ks)) (cond (p k) (Some k) None)
    go rest true = refl
    go rest false = rest

latest_or : (p : Key → Bool) (last : Option Key) (ks : List Key) → latest p last ks ≡ or_else (find p (reverse ks)) last
latest_or p last [] = refl
latest_or p last (k ∷ ks) =
    latest_or p (cond (p k) (Some k) last) ks
    ∙ go (p k) (find p (reverse ks))
    ∙ ap (λ (o : Option Key). or_else o last) (sym (ap (find p) (reverse-append (k ∷ []) ks) ∙ found_more p (reverse ks) k))
  where
    go : (b : Bool) (o : Option Key) → or_else o (cond b (Some k) last) ≡ or_else (or_else o (cond b (Some k) None)) last
    go true None = refl
    go false None = refl
    go b (Some j) = refl

pub latest_last : (p : Key → Bool) (ks : List Key) → latest p None ks ≡ find p (reverse ks)
latest_last p ks = latest_or p None ks ∙ go (find p (reverse ks))
  where
    go : (o : Option Key) → or_else o None ≡ o
    go None = refl
    go (Some j) = refl

-- ---- an option that was selected

pub selection_made : (ns : Nodes) (k s : Key) (listed others : List Key) → Some s ≡ select_of ns k → is_multiple ns s ≡ false → listed ≡ keys (options ns s) → others ≡ keys_but k listed → with_each not_selected ns others ≡ with_selection ns k
selection_made ns k s listed others of single all left =
    ap (with_each not_selected ns) (left ∙ ap (keys_but k) all)
    ∙ others_made not_selected not_selected_once (is_option_of ns s) ns k
    ∙ same_group not_selected (is_option_of ns s) (share_select ns k) k ns (λ j. shared j)
  where
    alone : (b : Bool) → b ≡ (b && true)
    alone true = refl
    alone false = refl

    shared : (j : Key) → is_option_of ns s j ≡ share_select ns k j
    shared j =
        alone (is_option_of ns s j)
        ∙ ap (λ (m : Bool). is_option_of ns s j && not m) (sym single)
        ∙ ap (λ (o : Option Key). option_map_or (λ t. is_option_of ns t j && not (is_multiple ns t)) o false) of

pub selection_nowhere : (ns : Nodes) (k : Key) → None ≡ select_of ns k → with_selection ns k ≡ ns
selection_nowhere ns k none = nobody_changed not_selected (share_select ns k) k ns (λ j. ap (λ (o : Option Key). option_map_or (λ t. is_option_of ns t j && not (is_multiple ns t)) o false) (sym none))

pub selection_of_many : (ns : Nodes) (k s : Key) → Some s ≡ select_of ns k → is_multiple ns s ≡ true → with_selection ns k ≡ ns
selection_of_many ns k s of many =
    nobody_changed not_selected (share_select ns k) k ns
    (λ j. ap (λ (o : Option Key). option_map_or (λ t. is_option_of ns t j && not (is_multiple ns t)) o false) (sym of) ∙ ap (λ (m : Bool). is_option_of ns s j && not m) many ∙ never (is_option_of ns s j))
  where
    never : (b : Bool) → (b && false) ≡ false
    never true = refl
    never false = refl

-- ---- the options of a select, and what is found among them

abbrev IsOwn : Nodes → Node → Type 0
IsOwn ns n = at_key ns n.key ≡ Some n

own_all : (ns : Nodes) → IsTree ns → All (IsOwn ns) ns
own_all ns tree = λ i d below. at_place ns (keys_differ ns tree) i d below

own_filtered : (P : Node → Type 0) (p : Node → Bool) (xs : Nodes) → All P xs → All P (filter p xs)
own_filtered P p xs all = All-filter p P xs all

own_reversed : (P : Node → Type 0) (xs : Nodes) → All P xs → All P (reverse xs)
own_reversed P [] all = All-nil P
own_reversed P (x ∷ xs) all =
    subst (All P) (sym (reverse-append (x ∷ []) xs))
    (All-append P (reverse xs) (x ∷ []) (own_reversed P xs (λ i d below. all (suc i) d (omega arith))) (All-cons P x [] (all 0 x (omega arith)) (All-nil P)))

own_options : (ns : Nodes) → IsTree ns → (s : Key) → All (IsOwn ns) (options ns s)
own_options ns tree s = own_filtered (IsOwn ns) (λ n. is_option_of ns s n.key) ns (own_all ns tree)

-- what is found by key is what is found
found_by_key : (ns : Nodes) (p : Node → Bool) (q : Key → Bool) (xs : Nodes) → All (IsOwn ns) xs → ((n : Node) → IsOwn ns n → q n.key ≡ p n) → find q (keys xs) ≡ option_map (λ n. n.key) (find p xs)
found_by_key ns p q xs own same =
    find_mapped q (λ (n : Node). n.key) xs
    ∙ ap (option_map (λ (n : Node). n.key)) (find_same (λ n. q n.key) p xs (λ i d below. same (get_or xs i d) (own i d below)))

last_by_key : (ns : Nodes) → IsTree ns → (s : Key) → find (passes is_selected ns) (reverse (keys (options ns s))) ≡ option_map (λ n. n.key) (last_selected ns s)
last_by_key ns tree s =
    ap (find (passes is_selected ns)) (map_reverse (λ (n : Node). n.key) (options ns s))
    ∙ found_by_key ns is_selected (passes is_selected ns) (reverse (options ns s)) (own_reversed (IsOwn ns) (options ns s) (own_options ns tree s)) (λ n own. passes_found is_selected ns n.key n own)

first_by_key : (ns : Nodes) → IsTree ns → (s : Key) → find (λ k. not (passes (is_disabled_option ns) ns k)) (keys (options ns s)) ≡ option_map (λ n. n.key) (first_enabled ns s)
first_by_key ns tree s =
    found_by_key ns (λ n. not (is_disabled_option ns n)) (λ k. not (passes (is_disabled_option ns) ns k)) (options ns s) (own_options ns tree s) (λ n own. ap not (passes_found (is_disabled_option ns) ns n.key n own))

-- ---- the selectedness setting algorithm

pub settled_many : (ns : Nodes) (s : Key) → is_multiple ns s ≡ true → with_selectedness ns s ≡ ns
settled_many ns s many = ap (λ (b : Bool). cond b ns (with_last ns s (last_selected ns s))) many

settled_single : (ns : Nodes) (s : Key) → is_multiple ns s ≡ false → with_selectedness ns s ≡ with_last ns s (last_selected ns s)
settled_single ns s single = ap (λ (b : Bool). cond b ns (with_last ns s (last_selected ns s))) single

pub settled_last : (ns : Nodes) → IsTree ns → (s last : Key) (listed others : List Key) → is_multiple ns s ≡ false → listed ≡ keys (options ns s) → Some last ≡ find (passes is_selected ns) (reverse listed) → others ≡ keys_but last listed → with_each not_selected ns others ≡ with_selectedness ns s
settled_last ns tree s last listed others single all found left =
    ap (with_each not_selected ns) (left ∙ ap (keys_but last) all)
    ∙ others_made not_selected not_selected_once (is_option_of ns s) ns last
    ∙ go (last_selected ns s) (sym (last_by_key ns tree s) ∙ ap (λ (ks : List Key). find (passes is_selected ns) (reverse ks)) (sym all) ∙ sym found)
    ∙ sym (settled_single ns s single)
  where
    go : (o : Option Node) → option_map (λ (n : Node). n.key) o ≡ Some last → changed_but not_selected (is_option_of ns s) last ns ≡ with_last ns s o
    go None h = absurd (none-some last h)
    go (Some n) h = ap (λ (k : Key). changed_but not_selected (is_option_of ns s) k ns) (sym (same_Some n.key last h))

none_last : (ns : Nodes) → IsTree ns → (s : Key) (listed : List Key) → listed ≡ keys (options ns s) → None ≡ find (passes is_selected ns) (reverse listed) → last_selected ns s ≡ None
none_last ns tree s listed all none = go (last_selected ns s) (sym (last_by_key ns tree s) ∙ ap (λ (ks : List Key). find (passes is_selected ns) (reverse ks)) (sym all) ∙ sym none)
  where
    go : (o : Option Node) → option_map (λ (n : Node). n.key) o ≡ None → o ≡ None
    go None h = refl
    go (Some n) h = absurd (none-some n.key (sym h))

pub settled_wide : (ns : Nodes) → IsTree ns → (s : Key) (listed : List Key) → is_multiple ns s ≡ false → listed ≡ keys (options ns s) → None ≡ find (passes is_selected ns) (reverse listed) → (display_size ns s == 1) ≡ false → with_selectedness ns s ≡ ns
settled_wide ns tree s listed single all none wide =
    settled_single ns s single ∙ ap (with_last ns s) (none_last ns tree s listed all none)
    ∙ ap (λ (b : Bool). cond b (option_map_or (λ (first : Node). with_node ns first.key now_selected) (first_enabled ns s) ns) ns) wide

pub settled_first : (ns : Nodes) → IsTree ns → (s : Key) (listed : List Key) → is_multiple ns s ≡ false → listed ≡ keys (options ns s) → None ≡ find (passes is_selected ns) (reverse listed) → (display_size ns s == 1) ≡ true → with_first_of ns listed ≡ with_selectedness ns s
settled_first ns tree s listed single all none narrow =
    ap (with_first_of ns) all
    ∙ ap (λ (o : Option Key). option_map_or (λ k. with_node ns k now_selected) o ns) (first_by_key ns tree s)
    ∙ go (first_enabled ns s)
    ∙ ap (λ (b : Bool). cond b (option_map_or (λ (first : Node). with_node ns first.key now_selected) (first_enabled ns s) ns) ns) (sym narrow)
    ∙ ap (with_last ns s) (sym (none_last ns tree s listed all none))
    ∙ sym (settled_single ns s single)
  where
    go : (o : Option Node) → option_map_or (λ k. with_node ns k now_selected) (option_map (λ (n : Node). n.key) o) ns ≡ option_map_or (λ (first : Node). with_node ns first.key now_selected) o ns
    go None = refl
    go (Some n) = refl

-- an element that is no select has no options
no_option : (ns : Nodes) (s : Key) → passes is_select ns s ≡ false → (j : Key) → is_option_of ns s j ≡ false
no_option ns s no_such j = go (select_of ns j) refl
  where
    go : (o : Option Key) → select_of ns j ≡ o → option_map_or (same_key s) o false ≡ false
    go None e = refl
    go (Some t) e = at (same_key s t) refl
      where
        at : (b : Bool) → same_key s t ≡ b → b ≡ false
        at false h = refl
        at true h = absurd (both_ways _ no_such (subst (λ (k : Key). passes is_select ns k ≡ true) (sym (key_same s t h)) (select_is_one ns j t e)))

none_pass : (p : Node → Bool) (xs : Nodes) → ((n : Node) → p n ≡ false) → filter p xs ≡ []
none_pass p [] none = refl
none_pass p (x ∷ xs) none = ap (λ (b : Bool). cond b (x ∷ filter p xs) (filter p xs)) (none x) ∙ none_pass p xs none

pub settled_nothing : (ns : Nodes) (s : Key) → passes is_select ns s ≡ false → with_selectedness ns s ≡ ns
settled_nothing ns s no_such =
    cond_both (is_multiple ns s) ns (with_last ns s (last_selected ns s)) (λ (u : Nodes). u ≡ ns) (λ _. refl)
    (λ _. ap (with_last ns s) (ap (λ (os : Nodes). find is_selected (reverse os)) empty) ∙ cond_both (display_size ns s == 1) (option_map_or (λ (first : Node). with_node ns first.key now_selected) (first_enabled ns s) ns) ns (λ (u : Nodes). u ≡ ns)
    (λ _. ap (λ (os : Nodes). option_map_or (λ (first : Node). with_node ns first.key now_selected) (find (λ n. not (is_disabled_option ns n)) os) ns) empty) (λ _. refl))
  where
    empty : options ns s ≡ []
    empty = none_pass (λ n. is_option_of ns s n.key) ns (λ n. no_option ns s no_such n.key)

-- ---- a reset

pub options_reset : (ns : Nodes) (s : Key) (listed : List Key) → listed ≡ keys (options ns s) → with_each reset_option ns listed ≡ with_options_reset ns s
options_reset ns s listed all = ap (with_each reset_option ns) all ∙ passing_made reset_option reset_once (is_option_of ns s) ns

-- ---- the draft after these steps

same_nodes : (draft : Draft) (ns : Nodes) → ns ≡ draft.nodes → draft ≡ record draft { nodes = ns }
same_nodes draft ns same = ap (λ (x : Nodes). record draft { nodes = x }) (sym same)

pub draft_nowhere : (draft : Draft) (k : Key) → None ≡ select_of draft.nodes k → draft ≡ record draft { nodes = with_selection draft.nodes k }
draft_nowhere draft k none = same_nodes draft _ (selection_nowhere draft.nodes k none)

pub draft_of_many : (draft : Draft) (k s : Key) → Some s ≡ select_of draft.nodes k → true ≡ is_multiple draft.nodes s → draft ≡ record draft { nodes = with_selection draft.nodes k }
draft_of_many draft k s of many = same_nodes draft _ (selection_of_many draft.nodes k s of (sym many))

pub draft_selected : {T E : Type 0} (r : Result T E) (draft next : Draft) (k s : Key) (listed others lent : List Key) → Some s ≡ select_of draft.nodes k → false ≡ is_multiple draft.nodes s → listed ≡ keys (options draft.nodes s) → others ≡ keys_but k listed → lent ≡ others
    → OnOk r (next ≡ record draft { nodes = with_each not_selected draft.nodes lent }) → OnOk r (next ≡ record draft { nodes = with_selection draft.nodes k })
draft_selected r draft next k s listed others lent of single all left is made =
    on_ok_weaker r (λ e. e ∙ ap (λ (ns : Nodes). record draft { nodes = ns }) (ap (with_each not_selected draft.nodes) is ∙ selection_made draft.nodes k s listed others of (sym single) all left)) made

pub draft_many : (draft : Draft) (s : Key) → true ≡ is_multiple draft.nodes s → draft ≡ record draft { nodes = with_selectedness draft.nodes s }
draft_many draft s many = same_nodes draft _ (settled_many draft.nodes s (sym many))

pub draft_no_select : (draft : Draft) (s : Key) → false ≡ passes is_select draft.nodes s → draft ≡ record draft { nodes = with_selectedness draft.nodes s }
draft_no_select draft s none = same_nodes draft _ (settled_nothing draft.nodes s (sym none))

-- what was read of the elements so far for the algorithm
pub record IsRead (draft : Draft) (s : Key) (listed : List Key) (last : Option Key) : Type 0 where
  pub tree : IsTree draft.nodes
  pub single : is_multiple draft.nodes s ≡ false
  pub all : listed ≡ keys (options draft.nodes s)
  pub met : last ≡ find (passes is_selected draft.nodes) (reverse listed)

pub are_read : (draft : Draft) (s : Key) (listed lent : List Key) (last : Option Key) → IsTree draft.nodes → false ≡ is_multiple draft.nodes s → listed ≡ keys (options draft.nodes s) → lent ≡ listed → last ≡ find (passes is_selected draft.nodes) (reverse lent) → IsRead draft s listed last
are_read draft s listed lent last tree single all is found = record {
  tree = tree;
  single = sym single;
  all = all;
  met = found ∙ ap (λ (ks : List Key). find (passes is_selected draft.nodes) (reverse ks)) is;
}

pub draft_last : {T E : Type 0} (r : Result T E) (draft next : Draft) (s : Key) (listed others lent : List Key) (found : Option Key) (last : Key) → IsRead draft s listed found → found ≡ Some last → others ≡ keys_but last listed → lent ≡ others
    → OnOk r (next ≡ record draft { nodes = with_each not_selected draft.nodes lent }) → OnOk r (next ≡ record draft { nodes = with_selectedness draft.nodes s })
draft_last r draft next s listed others lent found last read here left is made =
    on_ok_weaker r (λ e. e ∙ ap (λ (ns : Nodes). record draft { nodes = ns }) (ap (with_each not_selected draft.nodes) is ∙ settled_last draft.nodes read.tree s last listed others read.single read.all (sym here ∙ read.met) left)) made

pub draft_reset : {T E : Type 0} (r : Result T E) (draft next last : Draft) (s : Key) (listed lent : List Key) → listed ≡ keys (options draft.nodes s) → lent ≡ listed → next ≡ record draft { nodes = with_each reset_option draft.nodes lent }
    → OnOk r (last ≡ record next { nodes = with_selectedness next.nodes s }) → OnOk r (last ≡ record draft { nodes = with_selectedness (with_options_reset draft.nodes s) s })
draft_reset r draft next last s listed lent all is made settled =
    on_ok_weaker r
    (λ e. e ∙ ap (λ (d : Draft). let x : Draft = record d { nodes = with_selectedness d.nodes s } in x)
    (made ∙ ap (λ (ns : Nodes). let x : Draft = record draft { nodes = ns } in x) (ap (with_each reset_option draft.nodes) is ∙ options_reset draft.nodes s listed all)))
    settled

-- ---- where no option is selected

abbrev line_by : Draft → List Key → Bool → Draft
line_by draft listed narrow = record draft { nodes = cond narrow (with_first_of draft.nodes listed) draft.nodes }

pub line_wide : (draft : Draft) (s : Key) (listed : List Key) → false ≡ (display_size draft.nodes s == 1) → draft ≡ record draft { nodes = cond (display_size draft.nodes s == 1) (with_first_of draft.nodes listed) draft.nodes }
line_wide draft s listed wide = ap (line_by draft listed) wide

pub line_first : {T E : Type 0} (r : Result T E) (draft next : Draft) (s : Key) (listed : List Key) → true ≡ (display_size draft.nodes s == 1) → OnOk r (next ≡ record draft { nodes = with_first_of draft.nodes listed }) → OnOk r (next ≡ record draft { nodes = cond (display_size draft.nodes s == 1) (with_first_of draft.nodes listed) draft.nodes })
line_first r draft next s listed narrow made = on_ok_weaker r (λ e. e ∙ ap (line_by draft listed) narrow) made

settled_by_line : (draft : Draft) (s : Key) (listed : List Key) (found : Option Key) → IsRead draft s listed found → found ≡ None → (b : Bool) → (display_size draft.nodes s == 1) ≡ b → cond b (with_first_of draft.nodes listed) draft.nodes ≡ with_selectedness draft.nodes s
settled_by_line draft s listed found read none true e = settled_first draft.nodes read.tree s listed read.single read.all (sym none ∙ read.met) e
settled_by_line draft s listed found read none false e = sym (settled_wide draft.nodes read.tree s listed read.single read.all (sym none ∙ read.met) e)

pub draft_none : {T E : Type 0} (r : Result T E) (draft next : Draft) (s : Key) (listed lent : List Key) (found : Option Key) → IsRead draft s listed found → found ≡ None → lent ≡ listed → OnOk r (next ≡ record draft { nodes = cond (display_size draft.nodes s == 1) (with_first_of draft.nodes lent) draft.nodes }) → OnOk r (next ≡ record draft { nodes = with_selectedness draft.nodes s })
draft_none r draft next s listed lent found read none lend made =
    on_ok_weaker r
    (λ e. e ∙ ap (λ (ns : Nodes). let x : Draft = record draft { nodes = ns } in x)
    (ap (λ (ks : List Key). cond (display_size draft.nodes s == 1) (with_first_of draft.nodes ks) draft.nodes) lend ∙ settled_by_line draft s listed found read none (display_size draft.nodes s == 1) refl))
    made
