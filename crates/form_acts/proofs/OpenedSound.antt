-- A page is sound as it opens, where its elements are within their limits.
use Rattle.std.proofs.Common.{◌≡◌, ℕ, ◌+◌, ◌-◌, ◌≤◌, Bool, true, false, not, ◌&&◌, ◌||◌, ◌==◌, cond, List, [], ◌∷◌, map, Option, Some, None, refl, sym, ap, ◌∙◌, subst, codes}
use Rattle.std.specs.List.{All, find, list_any}
use Rattle.std.specs.Option.{option_map, option_map_or}
use Rattle.std.specs.Prelude.{reverse}
use Rattle.std.proofs.lemmas.Bool.{and_from, and_parts, both_ways, or_left, or_right}
use Rattle.std.proofs.lemmas.List.Elements.{All-cons, All-head, All-map, All-nil, All-tail, All-weaker}
use Rattle.std.proofs.lemmas.Option.{none-some, same_Some}
use Rattle.form_types.specs.declared.kind.Mode.{Mode}
use Rattle.form_types.specs.declared.kind.Mode.TheVariants as modes
use Rattle.form_types.specs.TypeTable.{mode_of}
use Rattle.form_states.specs.States.{sanitised}
use Rattle.form_tree.specs.declared.node.Key.{Key}
use Rattle.form_tree.specs.declared.node.Node.{Node}
use Rattle.form_tree.specs.declared.node.Raw.{Raw}
use Rattle.form_tree.specs.declared.node.State.{State}
use Rattle.form_tree.specs.Elements.{is_among, is_input, is_textarea, kind_of, passes, same_key}
use Rattle.form_tree.specs.RadioGroup.{is_checked, share_group}
use Rattle.form_tree.specs.Selects.{Marked, display_size, is_multiple, is_selected, marked_option, options, select_of, settled, settled_by, settled_options, share_select}
use Rattle.form_tree.specs.Tree.{IsTree, NamesDiffer, Nodes, at_key, attr_in, empty_state, is_key, node_of_raw, nodes_of_raws, shape_of}
use Rattle.form_tree.specs.Value.{value_attr_or}
use Rattle.form_tree.proofs.FirstKeys.{numbered, raws_are_tree}
use Rattle.form_tree.proofs.Laws.{KeepsElements, at_key_map, found_key, group-sym, key_same, same_key-refl, select_shared, share_group_map, share_select_map}
use Rattle.form_judge.specs.Beginning.{first_input_value, first_state, first_value}
use Rattle.form_judge.specs.Controls.{own_limits}
use Rattle.form_select.specs.Settled.{settled_option, stays_selected, with_selectedness_of}
use Rattle.form_page.specs.declared.file.File.{File}
use Rattle.form_page.specs.Opening.{is_outdone, opened, opened_nodes, settled_radios_of, unchecked_if, with_first_states, with_settled_radios, with_settled_selects, with_state_if}
use Rattle.form_page.specs.Page.{new_file}
use Rattle.form_page.specs.Settling.{off}
use Rattle.form_changes.specs.Changing.{with_selected_as}
use Rattle.form_acts.specs.Soundness.{HasSanitisedValue, HasSoundMarks, IsAllowed, IsOpenable, IsSettled, IsSound, IsWithin, most_depth, most_elements}
use Rattle.form_changes.specs.Values.{is_value_mode}
use Rattle.form_acts.proofs.Groups.{radio_marking}
use Rattle.form_acts.proofs.Marks.{OneMarked, fewer, nobody}
use Rattle.form_acts.proofs.Shapes.{same_depth, same_length}
use Rattle.form_acts.proofs.Sound.{same_marks, shape_kept}
use Rattle.form_acts.proofs.SoundLaws.{sound_from}
use Rattle.form_changes.proofs.ValueLaws.{sanitised_again}

-- an element in its first state
abbrev begun : Node → Node
begun n = with_state_if (Some (first_state n)) n

-- an option after the selectedness setting algorithm
abbrev chosen_in : Nodes → Node → Node
chosen_in ns n = with_state_if (settled_option ns n) n

-- ---- what holds of every element

module _ (P : Node → Type 0) (unchecks : (n : Node) → P n → P (off n)) (selects : (on : Bool) (n : Node) → P n → P (with_selected_as on n)) where
  radio_kept : (outdone : Bool) (n : Node) → P n → P (with_state_if (unchecked_if outdone n) n)
  radio_kept true n h = unchecks n h
  radio_kept false n h = h

  radios_kept : (all ns : Nodes) → All P ns → All P (settled_radios_of all ns)
  radios_kept all [] h = h
  radios_kept all (n ∷ ns) h =
      All-cons P _ (settled_radios_of all ns) (radio_kept (is_outdone all n ns) n (All-head P n ns h)) (radios_kept all ns (All-tail P n ns h))

  option_kept : (ns : Nodes) (n : Node) → P n → P (chosen_in ns n)
  option_kept ns n h = go (select_of ns n.key)
    where
      go : (o : Option Key) → P (with_state_if (option_map (λ (s : Key). with_selectedness_of (stays_selected ns n s) n.state) o) n)
      go None = h
      go (Some s) = selects (stays_selected ns n s) n h

  opened_all : (ns : Nodes) → All (λ n. P (begun n)) ns → All P (opened_nodes ns)
  unfolding opened_nodes
  opened_all ns h =
      let one : Nodes = with_first_states ns in
      let two : Nodes = with_settled_radios one in
      All-map P (chosen_in two) two (All-weaker P (λ n. P (chosen_in two n)) (option_kept two) two (radios_kept one one (All-map P begun ns h)))

everywhere : (P : Node → Type 0) → ((n : Node) → P n) → (ns : Nodes) → All P ns
everywhere P each [] = All-nil P
everywhere P each (n ∷ ns) = All-cons P n ns (each n) (everywhere P each ns)

-- ---- marks and values

begun_marks : (n : Node) → HasSoundMarks (begun n)
begun_marks n = record { by_user = λ e. absurd (cc); typed = λ e. refl }

marks_opened : (ns : Nodes) → All HasSoundMarks (opened_nodes ns)
marks_opened ns =
    opened_all HasSoundMarks (same_marks off (λ n. refl) (λ n. refl) (λ n. refl))
    (λ on. same_marks (with_selected_as on) (λ n. refl) (λ n. refl) (λ n. refl)) ns (everywhere (λ n. HasSoundMarks (begun n)) begun_marks ns)

-- an input in the mode value begins with its attribute, sanitised
begun_value : (n : Node) → HasSanitisedValue (begun n)
begun_value n kept =
    let parts = and_parts (is_input n) (is_value_mode (mode_of (kind_of n))) kept in
    let first : first_value n ≡ sanitised (kind_of n) (own_limits n) (value_attr_or [] n) = go (is_input n) parts.0 (mode_of (kind_of n)) parts.1 in
    subst (λ (t : List ℕ). sanitised (kind_of n) (own_limits n) t ≡ t) (sym first)
    (sanitised_again (kind_of n) (attr_in n.attrs (codes "min")) (attr_in n.attrs (codes "max")) (attr_in n.attrs (codes "step")) (attr_in n.attrs (codes "value")) (value_attr_or [] n))
  where
    go : (b : Bool) → b ≡ true → (m : Mode) → is_value_mode m ≡ true → cond b (first_input_value n m) (cond (is_textarea n) n.text []) ≡ sanitised (kind_of n) (own_limits n) (value_attr_or [] n)
    go true h modes.Value g = refl
    go true h modes.Default g = absurd (cc)
    go true h modes.DefaultOn g = absurd (cc)
    go true h modes.Filename g = absurd (cc)
    go false h m g = absurd (cc)

values_opened : (ns : Nodes) → All (λ n. false ≡ false → HasSanitisedValue n) (opened_nodes ns)
values_opened ns =
    All-weaker HasSanitisedValue (λ n. false ≡ false → HasSanitisedValue n) (λ n h _. h) (opened_nodes ns)
    (opened_all HasSanitisedValue (λ n h. h) (λ on n h. h) ns (everywhere (λ n. HasSanitisedValue (begun n)) begun_value ns))

-- ---- the shape, and the attributes

abbrev erase : Node → Node
erase n = record n { state = empty_state }

erase_keeps : KeepsElements erase
erase_keeps = record { key = λ n. refl; parent = λ n. refl; tag = λ n. refl; attrs = λ n. refl }

erased : (o : Option State) (n : Node) → erase (with_state_if o n) ≡ erase n
erased None n = refl
erased (Some state) n = refl

erased_radios : (all ns : Nodes) → map erase (settled_radios_of all ns) ≡ map erase ns
erased_radios all [] = refl
erased_radios all (n ∷ ns) = rw (erased (unchecked_if (is_outdone all n ns) n) n, erased_radios all ns) refl

erased_map : (f : Node → Option State) (ns : Nodes) → map erase (map (λ n. with_state_if (f n) n) ns) ≡ map erase ns
erased_map f [] = refl
erased_map f (n ∷ ns) = rw (erased (f n) n, erased_map f ns) refl

erased_opened : (ns : Nodes) → map erase (opened_nodes ns) ≡ map erase ns
unfolding opened_nodes
erased_opened ns =
    erased_map (settled_option (with_settled_radios (with_first_states ns))) (with_settled_radios (with_first_states ns))
    ∙ erased_radios (with_first_states ns) (with_first_states ns) ∙ erased_map (λ n. Some (first_state n)) ns

erased_shape : (ns : Nodes) → shape_of (map erase ns) ≡ shape_of ns
erased_shape ns = shape_kept erase (λ n. refl) (λ n. refl) ns

opened_shape : (ns : Nodes) → shape_of (opened_nodes ns) ≡ shape_of ns
opened_shape ns = sym (erased_shape (opened_nodes ns)) ∙ ap (λ (t : Nodes). shape_of t) (erased_opened ns) ∙ erased_shape ns

opened_tree_kept : (ns : Nodes) → IsTree ns → IsTree (opened_nodes ns)
opened_tree_kept ns tree = record {
  shape = rw (opened_shape ns) tree.shape;
  names = opened_all (λ n. NamesDiffer n.attrs) (λ n h. h) (λ on n h. h) ns tree.names;
}

-- ---- radio buttons

share_kept : (all ns : Nodes) (j k : Key) → share_group (settled_radios_of all ns) j k ≡ share_group ns j k
share_kept all ns j k =
    sym (share_group_map erase erase_keeps (settled_radios_of all ns) j k) ∙ ap (λ (t : Nodes). share_group t j k) (erased_radios all ns)
    ∙ share_group_map erase erase_keeps ns j k

-- a checked member of the group of j
abbrev is_checked_with : Nodes → Key → Node → Bool
is_checked_with all j m = is_checked m && share_group all j m.key

-- one that is still checked stands among the elements
still_checked : (all ns : Nodes) (j k : Key) → share_group all j k ≡ true → passes is_checked (settled_radios_of all ns) k ≡ true → list_any (is_checked_with all j) ns ≡ true
still_checked all [] j k shared m = absurd (cc)
still_checked all (n ∷ ns) j k shared m = go (is_outdone all n ns) (still_checked all ns j k shared) m
  where
    later : (passes is_checked (settled_radios_of all ns) k ≡ true → list_any (is_checked_with all j) ns ≡ true) → passes is_checked (settled_radios_of all ns) k ≡ true → list_any (is_checked_with all j) (n ∷ ns) ≡ true
    later more h = or_right _ _ (more h)

    unchecked_head : (b : Bool) → (passes is_checked (settled_radios_of all ns) k ≡ true → list_any (is_checked_with all j) ns ≡ true) → option_map_or is_checked (cond b (Some (off n)) (at_key (settled_radios_of all ns) k)) false ≡ true → list_any (is_checked_with all j) (n ∷ ns) ≡ true
    unchecked_head true more h = absurd (cc)
    unchecked_head false more h = later more h

    kept_head : (b : Bool) → is_key k n ≡ b → (passes is_checked (settled_radios_of all ns) k ≡ true → list_any (is_checked_with all j) ns ≡ true) → option_map_or is_checked (cond b (Some n) (at_key (settled_radios_of all ns) k)) false ≡ true → list_any (is_checked_with all j) (n ∷ ns) ≡ true
    kept_head true e more h = or_left _ _ (and_from _ _ h (subst (λ (i : Key). share_group all j i ≡ true) (key_same k n.key e) shared))
    kept_head false e more h = later more h

    go : (out : Bool) → (passes is_checked (settled_radios_of all ns) k ≡ true → list_any (is_checked_with all j) ns ≡ true) → passes is_checked (with_state_if (unchecked_if out n) n ∷ settled_radios_of all ns) k ≡ true → list_any (is_checked_with all j) (n ∷ ns) ≡ true
    go true more h = unchecked_head (is_key k n) more h
    go false more h = kept_head (is_key k n) refl more h

-- two of one group are not both checked
not_two : (all ns : Nodes) (j k : Key) → same_key j k ≡ false → share_group all j k ≡ true → passes is_checked (settled_radios_of all ns) j ≡ true → passes is_checked (settled_radios_of all ns) k ≡ true → ⊥
not_two all [] j k apart shared mj mk = cc
not_two all (n ∷ ns) j k apart shared mj mk = go (is_outdone all n ns) refl (not_two all ns j k apart shared) mj mk
  where
    rest : Nodes
    rest = settled_radios_of all ns

    -- the head stays checked, and another of its group behind it
    outdone : (i l : Key) → is_outdone all n ns ≡ false → is_key i n ≡ true → share_group all i l ≡ true → is_checked n ≡ true → passes is_checked rest l ≡ true → ⊥
    outdone i l not_out e both here there =
        let own : share_group all n.key l ≡ true = subst (λ (x : Key). share_group all x l ≡ true) (key_same i n.key e) both in
        both_ways _ not_out (and_from _ _ here (still_checked all ns n.key l own there))

    unchecked_head : (a b : Bool) → (passes is_checked rest j ≡ true → passes is_checked rest k ≡ true → ⊥) → option_map_or is_checked (cond a (Some (off n)) (at_key rest j)) false ≡ true → option_map_or is_checked (cond b (Some (off n)) (at_key rest k)) false ≡ true → ⊥
    unchecked_head true b more h g = cc
    unchecked_head false true more h g = cc
    unchecked_head false false more h g = more h g

    kept_head : is_outdone all n ns ≡ false → (a : Bool) → is_key j n ≡ a → (b : Bool) → is_key k n ≡ b → (passes is_checked rest j ≡ true → passes is_checked rest k ≡ true → ⊥) → option_map_or is_checked (cond a (Some n) (at_key rest j)) false ≡ true → option_map_or is_checked (cond b (Some n) (at_key rest k)) false ≡ true → ⊥
    kept_head out true e true f more h g =
        both_ways _ apart (subst (λ (x : Key). same_key j x ≡ true) (key_same j n.key e ∙ sym (key_same k n.key f)) (same_key-refl j))
    kept_head out true e false f more h g = outdone j k out e shared h g
    kept_head out false e true f more h g = outdone k j out f (group-sym all j k shared) g h
    kept_head out false e false f more h g = more h g

    go : (out : Bool) → is_outdone all n ns ≡ out → (passes is_checked rest j ≡ true → passes is_checked rest k ≡ true → ⊥) → passes is_checked (with_state_if (unchecked_if out n) n ∷ rest) j ≡ true → passes is_checked (with_state_if (unchecked_if out n) n ∷ rest) k ≡ true → ⊥
    go true e more h g = unchecked_head (is_key j n) (is_key k n) more h g
    go false e more h g = kept_head e (is_key j n) refl (is_key k n) refl more h g

radios_opened : (ns : Nodes) → OneMarked share_group is_checked (with_settled_radios ns)
radios_opened ns j k shared apart mj mk = absurd (not_two ns ns j k apart (sym (share_kept ns ns j k) ∙ shared) mj mk)

-- ---- options

state_key : (o : Option State) (n : Node) → (with_state_if o n).key ≡ n.key
state_key None n = refl
state_key (Some state) n = refl

state_parent : (o : Option State) (n : Node) → (with_state_if o n).parent ≡ n.parent
state_parent None n = refl
state_parent (Some state) n = refl

state_tag : (o : Option State) (n : Node) → (with_state_if o n).tag ≡ n.tag
state_tag None n = refl
state_tag (Some state) n = refl

state_attrs : (o : Option State) (n : Node) → (with_state_if o n).attrs ≡ n.attrs
state_attrs None n = refl
state_attrs (Some state) n = refl

chosen_keeps : (ns : Nodes) → KeepsElements (chosen_in ns)
chosen_keeps ns = record {
  key = λ n. state_key (settled_option ns n) n;
  parent = λ n. state_parent (settled_option ns n) n;
  tag = λ n. state_tag (settled_option ns n) n;
  attrs = λ n. state_attrs (settled_option ns n) n;
}

-- the algorithm checks no radio button
chosen_checked : (ns : Nodes) (n : Node) → is_checked (chosen_in ns n) ≡ true → is_checked n ≡ true
chosen_checked ns n h = go (select_of ns n.key) h
  where
    go : (o : Option Key) → is_checked (with_state_if (option_map (λ (s : Key). with_selectedness_of (stays_selected ns n s) n.state) o) n) ≡ true → is_checked n ≡ true
    go None h = h
    go (Some s) h = h

-- of a select that is not `multiple` two options do not stay selected
not_two_stay : (size : ℕ) (marked : List Marked) (last : Option Marked) (j k : Key) → same_key j k ≡ false → is_among (settled_by size marked last) j ≡ true → is_among (settled_by size marked last) k ≡ true → ⊥
not_two_stay size marked last j k apart = by last
  where
    alone : (i : Key) (a b : Bool) → same_key j i ≡ a → same_key k i ≡ b → (a || false) ≡ true → (b || false) ≡ true → ⊥
    alone i true true e f h g = both_ways _ apart (subst (λ (x : Key). same_key j x ≡ true) (key_same j i e ∙ sym (key_same k i f)) (same_key-refl j))
    alone i true false e f h g = cc
    alone i false b e f h g = cc

    first : (b : Bool) (o : Option Marked) → is_among (cond b (option_map_or (λ (m : Marked). m.0 ∷ []) o []) []) j ≡ true → is_among (cond b (option_map_or (λ (m : Marked). m.0 ∷ []) o []) []) k ≡ true → ⊥
    first true None h g = cc
    first true (Some m) h g = alone m.0 (same_key j m.0) (same_key k m.0) refl refl h g
    first false o h g = cc

    by : (last : Option Marked) → is_among (settled_by size marked last) j ≡ true → is_among (settled_by size marked last) k ≡ true → ⊥
    by (Some m) h g = alone m.0 (same_key j m.0) (same_key k m.0) refl refl h g
    by None h g = first (size == 1) (find (λ (o : Marked). not o.1) marked) h g

-- an option that is selected after the algorithm is among those that stay
stays : (ns : Nodes) (k s : Key) → select_of ns k ≡ Some s → is_multiple ns s ≡ false → passes is_selected (with_settled_selects ns) k ≡ true → is_among (settled ns s) k ≡ true
stays ns k s belongs single m =
    go (at_key ns k) refl (sym (ap (λ (o : Option Node). option_map_or is_selected o false) (at_key_map (chosen_in ns) (chosen_keeps ns) ns k)) ∙ m)
  where
    go : (o : Option Node) → at_key ns k ≡ o → option_map_or is_selected (option_map (chosen_in ns) o) false ≡ true → is_among (settled ns s) k ≡ true
    go None found h = absurd (cc)
    go (Some n) found h =
        let at : n.key ≡ k = found_key ns k n found in
        subst (λ (i : Key). is_among (settled ns s) i ≡ true) at (among n (is_multiple ns s) single (picked n (select_of ns n.key) (ap (select_of ns) at ∙ belongs) h))
      where
        picked : (m : Node) (o : Option Key) → o ≡ Some s → is_selected (with_state_if (option_map (λ (r : Key). with_selectedness_of (stays_selected ns m r) m.state) o) m) ≡ true → stays_selected ns m s ≡ true
        picked m None e h = absurd (none-some s e)
        picked m (Some r) e h = subst (λ (x : Key). stays_selected ns m x ≡ true) (same_Some r s e) h

        among : (m : Node) (b : Bool) → b ≡ false → cond b (is_selected m) (is_among (settled ns s) m.key) ≡ true → is_among (settled ns s) m.key ≡ true
        among m true e h = absurd (cc)
        among m false e h = h

one_stays : (ns : Nodes) (s j k : Key) → is_multiple ns s ≡ false → same_key j k ≡ false → is_among (settled ns s) j ≡ true → is_among (settled ns s) k ≡ true → ⊥
one_stays ns s j k single apart = go (is_multiple ns s) single (map (marked_option ns) (options ns s))
  where
    go : (b : Bool) → b ≡ false → (marked : List Marked) → is_among (settled_options b (display_size ns s) marked) j ≡ true → is_among (settled_options b (display_size ns s) marked) k ≡ true → ⊥
    go true e marked h g = cc
    go false e marked h g = not_two_stay (display_size ns s) marked (find (λ (o : Marked). o.2) (reverse marked)) j k apart h g

options_opened : (ns : Nodes) → OneMarked share_select is_selected (with_settled_selects ns)
options_opened ns j k shared apart mj mk =
    let sh = select_shared ns j k (sym (share_select_map (chosen_in ns) (chosen_keeps ns) ns j k) ∙ shared) in
    absurd (one_stays ns sh.0 j k sh.3 apart (stays ns j sh.0 sh.1 sh.3 mj) (stays ns k sh.0 sh.2 sh.3 mk))

-- ---- the page

settled_opened : (ns : Nodes) → IsTree ns → IsSettled (opened_nodes ns)
unfolding opened_nodes
settled_opened ns tree =
    let two : Nodes = with_settled_radios (with_first_states ns) in
    sound_from (opened_nodes ns) (record {
      tree = opened_tree_kept ns tree;
      marks = marks_opened ns;
      values = values_opened ns;
      groups = fewer share_group is_checked off radio_marking (chosen_in two) (chosen_keeps two) (chosen_checked two) nobody two (radios_opened (with_first_states ns));
      selects = options_opened two;
    })

numbered_all : (P : Node → Type 0) (Q : Raw → Type 0) → ((place : ℕ) (raw : Raw) → Q raw → P (node_of_raw place raw)) → (start : ℕ) (raws : List Raw) → All Q raws → All P (numbered start raws)
numbered_all P Q each start [] h = All-nil P
numbered_all P Q each start (raw ∷ raws) h =
    All-cons P (node_of_raw start raw) (numbered (start + 1) raws) (each start raw (All-head Q raw raws h)) (numbered_all P Q each (start + 1) raws (All-tail Q raw raws h))

within_opened : (files : List File) (raws : List Raw) → IsOpenable raws → All (IsWithin files) (opened_nodes (nodes_of_raws raws))
within_opened files raws openable =
    opened_all (IsWithin files) (λ n h. record { attributes = h.attributes; email = h.email; chosen = h.chosen; there = h.there })
    (λ on n h. record { attributes = h.attributes; email = h.email; chosen = h.chosen; there = h.there }) (nodes_of_raws raws)
    (numbered_all (λ n. IsWithin files (begun n)) IsAllowed (λ place raw h. record { attributes = h.attributes; email = h.email; chosen = λ e. refl; there = All-nil _ }) 0 raws openable.allowed)

pub opened_sound : (raws : List Raw) (names : List (List ℕ)) → IsOpenable raws → IsSound (opened raws names)
opened_sound raws names openable = record {
  settled = settled_opened (nodes_of_raws raws) (raws_are_tree raws openable.tree);
  elements = subst (λ (n : ℕ). n ≤ most_elements) (sym (same_length (nodes_of_raws raws) (opened_nodes (nodes_of_raws raws)) (opened_shape (nodes_of_raws raws)))) openable.elements;
  depth = λ k. subst (λ (n : ℕ). n ≤ most_depth - 1) (sym (same_depth (nodes_of_raws raws) (opened_nodes (nodes_of_raws raws)) (opened_shape (nodes_of_raws raws)) k)) (openable.depth k);
  within = within_opened (map new_file names) raws openable;
}
