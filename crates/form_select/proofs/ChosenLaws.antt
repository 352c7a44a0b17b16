-- What stays selected of a select without `multiple` is one option at most.
use Rattle.std.proofs.Common.{◌≡◌, ℕ, Bool, true, false, ◌||◌, cond, List, [], ◌∷◌, map, get_or, Option, Some, None, refl, sym, ap, ◌∙◌}
use Rattle.std.specs.List.{find, slice_get}
use Rattle.std.specs.Option.{option_map_or, option_and_then}
use Rattle.std.specs.Prelude.{reverse, not, ◌==◌}
use Rattle.std.proofs.lemmas.Option.{none-some, same_Some}
use Rattle.form_tree.specs.declared.node.Key.{Key}
use Rattle.form_tree.specs.declared.node.Node.{Node}
use Rattle.form_tree.specs.Elements.{is_among, is_optgroup, is_option, is_select, passes, same_key}
use Rattle.form_tree.specs.Selects.{Marked, display_size, is_multiple, marked_option, options, select_above, select_of, settled, settled_by, settled_options}
use Rattle.form_tree.specs.Tree.{Nodes, parent_of, place_of}
use Rattle.form_select.specs.Settled.{chosen_at}
use Rattle.form_select.proofs.PlaceLaws.{kept_there, placed_node, unplaced}

one_or_none : (k : Key) (size : ℕ) (options : List Marked) (last : Option Marked) → is_among (settled_by size options last) k ≡ option_map_or (same_key k) (slice_get (settled_by size options last) 0) false
one_or_none k size options (Some last) = alone (same_key k last.0)
  where
    alone : (b : Bool) → (b || false) ≡ b
    alone true = refl
    alone false = refl
one_or_none k size options None = go (size == 1) (find (λ (o : Marked). not o.1) options)
  where
    alone : (b : Bool) → (b || false) ≡ b
    alone true = refl
    alone false = refl

    go : (b : Bool) (o : Option Marked) → is_among (cond b (option_map_or (λ (first : Marked). first.0 ∷ []) o []) []) k ≡ option_map_or (same_key k) (slice_get (cond b (option_map_or (λ (first : Marked). first.0 ∷ []) o []) []) 0) false
    go false o = refl
    go true None = refl
    go true (Some first) = alone (same_key k first.0)

pub one_stays : (ns : Nodes) (s k : Key) → is_multiple ns s ≡ false → is_among (settled ns s) k ≡ option_map_or (same_key k) (slice_get (settled ns s) 0) false
one_stays ns s k single = go (is_multiple ns s) single (display_size ns s) (map (marked_option ns) (options ns s))
  where
    go : (b : Bool) → b ≡ false → (size : ℕ) (marked : List Marked) → is_among (settled_options b size marked) k ≡ option_map_or (same_key k) (slice_get (settled_options b size marked) 0) false
    go true h size marked = absurd (cc)
    go false h size marked = one_or_none k size marked (find (λ (o : Marked). o.2) (reverse marked))

-- what an option belongs to is a select
pub select_is_one : (ns : Nodes) (k s : Key) → select_of ns k ≡ Some s → passes is_select ns s ≡ true
select_is_one ns k s found = option (passes is_option ns k) found
  where
    top : (o : Option Key) → option_and_then (λ top. cond (passes is_select ns top) (Some top) None) o ≡ Some s → passes is_select ns s ≡ true
    top None h = absurd (none-some s h)
    top (Some t) h = go (passes is_select ns t) refl h
      where
        go : (b : Bool) → passes is_select ns t ≡ b → cond b (Some t) None ≡ Some s → passes is_select ns s ≡ true
        go true e h = ap (passes is_select ns) (sym (same_Some t s h)) ∙ e
        go false e h = absurd (none-some s h)

    above : (o : Option Key) → select_above ns o ≡ Some s → passes is_select ns s ≡ true
    above None h = absurd (none-some s h)
    above (Some up) h = go (passes is_select ns up) refl (passes is_optgroup ns up) h
      where
        go : (b : Bool) → passes is_select ns up ≡ b → (c : Bool) → cond b (Some up) (cond c (option_and_then (λ top. cond (passes is_select ns top) (Some top) None) (parent_of ns up)) None) ≡ Some s → passes is_select ns s ≡ true
        go true e c h = ap (passes is_select ns) (sym (same_Some up s h)) ∙ e
        go false e true h = top (parent_of ns up) h
        go false e false h = absurd (none-some s h)

    option : (b : Bool) → cond b (select_above ns (parent_of ns k)) None ≡ Some s → passes is_select ns s ≡ true
    option true h = above (parent_of ns k) h
    option false h = absurd (none-some s h)

-- what was found for each place, at that of a select
pub chosen_placed : (ns : Nodes) (s : Key) (i : ℕ) (chosen : List (Option Key)) → chosen ≡ map (chosen_at ns) ns → Some i ≡ place_of ns s → get_or chosen i None ≡ cond (passes is_select ns s) (slice_get (settled ns s) 0) None
chosen_placed ns s i chosen stand placed =
    let met = placed_node ns s i placed in
    ap (λ (kept : List (Option Key)). get_or kept i None) stand ∙ kept_there (chosen_at ns) ns i met.0 None met.1
    ∙ ap (λ (k : Key). cond (is_select met.0) (slice_get (settled ns k) 0) None) met.3
    ∙ ap (λ (b : Bool). cond b (slice_get (settled ns s) 0) None) (sym (ap (λ (o : Option Node). option_map_or is_select o false) met.2))

pub chosen_unplaced : (ns : Nodes) (s : Key) → None ≡ place_of ns s → None ≡ cond (passes is_select ns s) (slice_get (settled ns s) 0) None
chosen_unplaced ns s none = rw (unplaced ns s none) refl
