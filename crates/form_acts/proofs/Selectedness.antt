-- After the selectedness setting algorithm at most one option of its select is selected.
use Rattle.std.proofs.Common.{◌≡◌, ◌⊎◌, Bool, true, false, not, ◌&&◌, ◌||◌, ◌==◌, cond, List, [], ◌∷◌, Option, Some, None, inl, inr, refl, sym, ap, ◌∙◌, subst}
use Rattle.std.specs.Prelude.{reverse}
use Rattle.std.specs.List.{filter, find, list_any}
use Rattle.std.specs.Option.{option_map_or}
use Rattle.std.proofs.lemmas.Bool.{and_from, or_cases, or_left, or_right, both_ways, not_from_false}
use Rattle.std.proofs.lemmas.List.{reverse-append}
use Rattle.std.proofs.lemmas.List.Folds.{list_any-append}
use Rattle.std.proofs.lemmas.Option.{none-some, same_Some}
use Rattle.form_acts.proofs.Groups.{select_marking}
use Rattle.form_acts.proofs.Marks.{OneMarked, OneMarkedBut, elsewhere, kept_marks, nobody}
use Rattle.form_page.specs.Settling.{changed_but, first_enabled, last_selected, not_selected, now_selected, with_last, with_selectedness}
use Rattle.form_tree.proofs.Laws.{KeepsElements, found_key, keeps_where, key_same, passes_there, same_key-refl, same_key-sym, select_shared}
use Rattle.form_tree.specs.Elements.{passes, same_key}
use Rattle.form_tree.specs.Selects.{display_size, is_disabled_option, is_multiple, is_option_of, is_selected, options, select_of, share_select}
use Rattle.form_tree.specs.Tree.{Nodes, is_key, with_node}
use Rattle.form_tree.specs.declared.node.Key.{Key}
use Rattle.form_tree.specs.declared.node.Node.{Node}

-- ---- lists

-- what is found in a filtered list passes the filter
pub found_filtered : {X : Type 0} (q p : X → Bool) (xs : List X) (x : X) → find q (filter p xs) ≡ Some x → p x ≡ true
found_filtered q p [] x found = absurd (none-some x found)
found_filtered {X} q p (y ∷ xs) x found = go (found_filtered q p xs x) (p y) refl found
  where
    front : (b : Bool) → p y ≡ true → (find q (filter p xs) ≡ Some x → p x ≡ true) → cond b (Some y) (find q (filter p xs)) ≡ Some x → p x ≡ true
    front true e more h = subst (λ (z : X). p z ≡ true) (same_Some y x h) e
    front false e more h = more h

    go : (find q (filter p xs) ≡ Some x → p x ≡ true) → (b : Bool) → p y ≡ b → find q (cond b (y ∷ filter p xs) (filter p xs)) ≡ Some x → p x ≡ true
    go more true e h = front (q y) e more h
    go more false e h = more h

-- where a search finds nothing, nothing passes
none_passes : {X : Type 0} (p : X → Bool) (xs : List X) → find p xs ≡ None → list_any p xs ≡ false
none_passes p [] none = refl
none_passes {X} p (x ∷ xs) none = go (none_passes p xs) (p x) none
  where
    go : (find p xs ≡ None → list_any p xs ≡ false) → (b : Bool) → cond b (Some x) (find p xs) ≡ None → (b || list_any p xs) ≡ false
    go more true h = absurd (none-some x (sym h))
    go more false h = more h

any-reverse : {X : Type 0} (p : X → Bool) (xs : List X) → list_any p xs ≡ true → list_any p (reverse xs) ≡ true
any-reverse p [] some = some
any-reverse {X} p (x ∷ xs) some = rw (reverse-append (x ∷ []) xs, list_any-append p (reverse xs) (x ∷ [])) (go (any-reverse p xs) (p x) some)
  where
    go : (list_any p xs ≡ true → list_any p (reverse xs) ≡ true) → (b : Bool) → (b || list_any p xs) ≡ true → (list_any p (reverse xs) || (b || false)) ≡ true
    go more true h = or_right _ _ refl
    go more false h = or_left _ _ (more h)

-- what a search finds and passes two tests is met behind a filter by one of them
pub found_any : {X : Type 0} (r p q : X → Bool) (xs : List X) (x : X) → find r xs ≡ Some x → p x ≡ true → q x ≡ true → list_any q (filter p xs) ≡ true
found_any r p q [] x found hp hq = absurd (none-some x found)
found_any {X} r p q (y ∷ xs) x found hp hq = go (λ f. found_any r p q xs x f hp hq) (r y) found
  where
    later : (b : Bool) → list_any q (filter p xs) ≡ true → list_any q (cond b (y ∷ filter p xs) (filter p xs)) ≡ true
    later true h = or_right _ _ h
    later false h = h

    go : (find r xs ≡ Some x → list_any q (filter p xs) ≡ true) → (b : Bool) → cond b (Some y) (find r xs) ≡ Some x → list_any q (cond (p y) (y ∷ filter p xs) (filter p xs)) ≡ true
    go more true h =
        let same = same_Some y x h in
        let py : p y ≡ true = subst (λ (z : X). p z ≡ true) (sym same) hp in
        let qy : q y ≡ true = subst (λ (z : X). q z ≡ true) (sym same) hq in
        rw py (or_left _ _ qy)
    go more false h = later (p y) (more h)

-- ---- the algorithm

-- where no option was found to be selected, none is
none_selected : (t : Nodes) (s j : Key) → last_selected t s ≡ None → is_option_of t s j ≡ true → passes is_selected t j ≡ true → ⊥
none_selected t s j none belongs marked =
    let there = passes_there is_selected t j marked in
    let at : there.0.key ≡ j = found_key t j there.0 there.1 in
    let met = found_any (is_key j) (λ n. is_option_of t s n.key) is_selected t there.0 there.1 (subst (λ (i : Key). is_option_of t s i ≡ true) (sym at) belongs) there.2 in
    both_ways _ (none_passes is_selected (reverse (options t s)) none) (any-reverse is_selected (options t s) met)

-- the options of one select belong to it together
pub option_in : (t : Nodes) (s j : Key) → is_option_of t s j ≡ true → select_of t j ≡ Some s
option_in t s j h = go (select_of t j) refl h
  where
    go : (o : Option Key) → select_of t j ≡ o → option_map_or (same_key s) o false ≡ true → select_of t j ≡ Some s
    go None e g = absurd (cc)
    go (Some r) e g = e ∙ ap (λ (i : Key). Some i) (sym (key_same s r g))

pub in_option : (t : Nodes) (s j : Key) → select_of t j ≡ Some s → is_option_of t s j ≡ true
in_option t s j e = rw e (same_key-refl s)

-- both of two that share a select are its options, where one of them is
both_options : (t : Nodes) (s j l : Key) → share_select t j l ≡ true → (is_option_of t s j || is_option_of t s l) ≡ true → (is_option_of t s j ≡ true) × (is_option_of t s l ≡ true) × (is_multiple t s ≡ false)
both_options t s j l shared one =
    let sh = select_shared t j l shared in
    let same : sh.0 ≡ s = elim (or_cases _ _ one) [
      | inl h ↦ same_Some sh.0 s (sym sh.1 ∙ option_in t s j h)
      | inr h ↦ same_Some sh.0 s (sym sh.2 ∙ option_in t s l h)
    ] in
    (in_option t s j (sh.1 ∙ ap (λ (i : Key). Some i) same), in_option t s l (sh.2 ∙ ap (λ (i : Key). Some i) same), subst (λ (i : Key). is_multiple t i ≡ false) same sh.3)

-- of two pairs of tests one passes in one of the pairs
sorted : (a b c d : Bool) → ((a || b) || (c || d)) ≡ true → ((b || d) ≡ true) ⊎ ((a || c) ≡ true)
sorted true b c d h = inr refl
sorted false true c d h = inl refl
sorted false false true d h = inr refl
sorted false false false true h = inl refl
sorted false false false false h = absurd (cc)

-- the options of the select are spared, and whomever else
module _ (t : Nodes) (s : Key) (rest : Key → Bool) (one : OneMarkedBut share_select is_selected (λ i. is_option_of t s i || rest i) t) where
  -- of two that are selected, where the others are not spared, both are options of the select
  both_here : (j l : Key) → share_select t j l ≡ true → same_key j l ≡ false → passes is_selected t j ≡ true → passes is_selected t l ≡ true → ((rest j || rest l) ≡ true) ⊎ ((is_option_of t s j ≡ true) × (is_option_of t s l ≡ true) × (is_multiple t s ≡ false))
  both_here j l shared differ mj ml = elim (sorted (is_option_of t s j) (rest j) (is_option_of t s l) (rest l) (one j l shared differ mj ml)) [
    | inl spared ↦ inl spared
    | inr here ↦ inr (both_options t s j l shared here)
  ]

  -- nothing is to be done for a select with `multiple`
  of_multiple : is_multiple t s ≡ true → OneMarkedBut share_select is_selected rest t
  of_multiple multiple j l shared differ mj ml = elim (both_here j l shared differ mj ml) [
    | inl spared ↦ spared
    | inr both ↦ absurd (both_ways _ both.2 multiple)
  ]

  -- nor where none is selected
  of_none : last_selected t s ≡ None → OneMarkedBut share_select is_selected rest t
  of_none none j l shared differ mj ml = elim (both_here j l shared differ mj ml) [
    | inl spared ↦ spared
    | inr both ↦ absurd (none_selected t s j none both.0 mj)
  ]

  keeps_unselected : (last : Key) → KeepsElements (λ n. cond (is_option_of t s n.key && not (is_key last n)) (not_selected n) n)
  keeps_unselected last = keeps_where (λ n. is_option_of t s n.key && not (is_key last n)) not_selected (record { key = λ n. refl; parent = λ n. refl; tag = λ n. refl; attrs = λ n. refl })

  -- the last one stays alone
  of_last : (last : Key) → OneMarkedBut share_select is_selected rest (changed_but not_selected (is_option_of t s) last t)
  of_last last j l shared differ mj ml =
      let before : share_select t j l ≡ true = sym (select_marking.kept _ (keeps_unselected last) t j l) ∙ shared in
      let kj = kept_marks share_select is_selected not_selected select_marking (is_option_of t s) last t j mj in
      let kl = kept_marks share_select is_selected not_selected select_marking (is_option_of t s) last t l ml in
      elim (both_here j l before differ kj.0 kl.0) [
        | inl spared ↦ spared
        | inr both ↦
            let at_j : last ≡ j = is_last j both.0 kj.1 in
            let at_l : last ≡ l = is_last l both.1 kl.1 in
            absurd (both_ways _ differ (subst (λ (i : Key). same_key i l ≡ true) (sym at_l ∙ at_j) (same_key-refl l)))
      ]
    where
      is_last : (i : Key) → is_option_of t s i ≡ true → (is_option_of t s i && not (same_key last i)) ≡ false → last ≡ i
      is_last i belongs kept = go (same_key last i) refl
        where
          go : (b : Bool) → same_key last i ≡ b → last ≡ i
          go true e = key_same last i e
          go false e = absurd (both_ways _ kept (and_from _ _ belongs (not_from_false _ e)))

  keeps_selected : KeepsElements now_selected
  keeps_selected = record { key = λ n. refl; parent = λ n. refl; tag = λ n. refl; attrs = λ n. refl }

  -- the first that is not disabled stands alone, since none was selected
  of_first : last_selected t s ≡ None → (first : Node) → is_option_of t s first.key ≡ true → OneMarkedBut share_select is_selected rest (with_node t first.key now_selected)
  of_first none first belongs j l shared differ mj ml = cases (same_key j first.key) refl (same_key l first.key) refl
    where
      before : share_select t j l ≡ true
      before = sym (select_marking.kept _ (keeps_where (is_key first.key) now_selected keeps_selected) t j l) ∙ shared

      at : (i : Key) → same_key i first.key ≡ true → is_option_of t s i ≡ true
      at i e = subst (λ (k : Key). is_option_of t s k ≡ true) (sym (key_same i first.key e)) belongs

      was : (i : Key) → same_key i first.key ≡ false → passes is_selected (with_node t first.key now_selected) i ≡ true → passes is_selected t i ≡ true
      was i apart marked = elsewhere share_select is_selected not_selected select_marking now_selected keeps_selected t first.key i apart marked

      cases : (a : Bool) → same_key j first.key ≡ a → (b : Bool) → same_key l first.key ≡ b → (rest j || rest l) ≡ true
      cases true e b f =
          let both = both_options t s j l before (or_left _ _ (at j e)) in
          absurd (none_selected t s l none both.1 (was l (subst (λ (i : Key). same_key l i ≡ false) (key_same j first.key e) (same_key-sym l j ∙ differ)) ml))
      cases false e true f =
          let both = both_options t s j l before (or_right _ _ (at l f)) in
          absurd (none_selected t s j none both.0 (was j e mj))
      cases false e false f = of_none none j l before differ (was j e mj) (was l f ml)

  -- After the algorithm on a select, its options are spared no more.
  pub selectedness_of_one : OneMarkedBut share_select is_selected rest (with_selectedness t s)
  selectedness_of_one = go (is_multiple t s) refl
    where
      of_size : (b : Bool) → last_selected t s ≡ None → (o : Option Node) → first_enabled t s ≡ o → OneMarkedBut share_select is_selected rest (cond b (option_map_or (λ (first : Node). with_node t first.key now_selected) o t) t)
      of_size true none (Some first) found = of_first none first (found_filtered (λ n. not (is_disabled_option t n)) (λ n. is_option_of t s n.key) t first found)
      of_size true none None found = of_none none
      of_size false none o found = of_none none

      alone : (o : Option Node) → last_selected t s ≡ o → OneMarkedBut share_select is_selected rest (with_last t s o)
      alone (Some last) found = of_last last.key
      alone None none = of_size (display_size t s == 1) none (first_enabled t s) refl

      go : (b : Bool) → is_multiple t s ≡ b → OneMarkedBut share_select is_selected rest (cond b t (with_last t s (last_selected t s)))
      go true multiple = of_multiple multiple
      go false single = alone (last_selected t s) refl

-- with nobody else spared
pub selectedness_settled : (t : Nodes) (s : Key) → OneMarkedBut share_select is_selected (is_option_of t s) t → OneMarked share_select is_selected (with_selectedness t s)
selectedness_settled t s one = selectedness_of_one t s nobody (λ j l shared differ mj ml. more (is_option_of t s j) (is_option_of t s l) (one j l shared differ mj ml))
  where
    more : (a c : Bool) → (a || c) ≡ true → ((a || false) || (c || false)) ≡ true
    more true c h = refl
    more false true h = refl
    more false false h = absurd (cc)
