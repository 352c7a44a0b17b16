-- What an option is, by its parts.
use Rattle.std.proofs.Common.{◌≡◌, ℕ, codes, ◌&&◌, ◌||◌, Bool, true, false, not, cond, List, [], ◌∷◌, Option, Some, None, refl, ◌∙◌}
use Rattle.std.specs.Char.{is_ascii_whitespace}
use Rattle.std.specs.List.{list_all, filter, slice_split, onto_first, join_with_byte}
use Rattle.std.specs.Option.{option_and_then, option_map, option_map_or}
use Rattle.std.proofs.lemmas.Option.{same_Some}
use Rattle.form_text.specs.LineEnds.{with_lf}
use Rattle.form_text.specs.Whitespace.{is_not_empty, stripped_and_collapsed}
use Rattle.form_tree.specs.declared.node.Key.{Key}
use Rattle.form_tree.specs.declared.node.Node.{Node}
use Rattle.form_tree.specs.declared.node.Tag.{Tag}
use Rattle.form_tree.specs.declared.node.Tag.TheVariants as tags
use Rattle.form_tree.specs.Elements.{has_attr, is_child_of, is_empty_text, is_button_tag, is_input_tag, is_optgroup, is_option, is_option_tag, is_select_tag, is_textarea_tag, passes, same_key}
use Rattle.form_tree.specs.Selects.{is_choice_made, is_disabled_optgroup, is_disabled_option, is_option_of, is_selected, key_if_placeholder, marked_option, option_value, select_above}
use Rattle.form_tree.specs.Tree.{Nodes, at_key, parent_of}
use Rattle.form_tree.specs.Value.{input_value, select_value, value_at, value_attr_or, value_of}
use Rattle.form_tree.proofs.Laws.{found_key}
use Rattle.form_select.specs.Options.{has_empty_value}

-- a disabled option, by its parts
pub disabled_parts : (ns : Nodes) (k : Key) → passes (is_disabled_option ns) ns k ≡ (passes (has_attr (codes "disabled")) ns k || option_map_or (passes is_disabled_optgroup ns) (parent_of ns k) false)
disabled_parts ns k = go (at_key ns k)
  where
    go : (o : Option Node) → option_map_or (is_disabled_option ns) o false ≡ (option_map_or (has_attr (codes "disabled")) o false || option_map_or (passes is_disabled_optgroup ns) (option_and_then (λ (n : Node). n.parent) o) false)
    go None = refl
    go (Some n) = refl

-- a disabled optgroup, by its parts
pub optgroup_parts : (ns : Nodes) (k : Key) → passes is_disabled_optgroup ns k ≡ (passes is_optgroup ns k && passes (has_attr (codes "disabled")) ns k)
optgroup_parts ns k = go (at_key ns k)
  where
    go : (o : Option Node) → option_map_or is_disabled_optgroup o false ≡ (option_map_or is_optgroup o false && option_map_or (has_attr (codes "disabled")) o false)
    go None = refl
    go (Some n) = refl

-- an option that may be the placeholder, by its parts
pub placeholder_parts : (ns : Nodes) (s k : Key) → option_and_then (key_if_placeholder s) (at_key ns k) ≡ cond (passes has_empty_value ns k && passes (is_child_of s) ns k) (Some k) None
placeholder_parts ns s k = go (at_key ns k) refl
  where
    go : (o : Option Node) → at_key ns k ≡ o → option_and_then (key_if_placeholder s) o ≡ cond (option_map_or has_empty_value o false && option_map_or (is_child_of s) o false) (Some k) None
    go None e = refl
    go (Some n) e = rw (found_key ns k n e) refl

-- an option that is selected and not the placeholder, by its parts
pub choice_parts : (ns : Nodes) (placeholder : Option Key) (k : Key) → passes (is_choice_made placeholder) ns k ≡ (passes is_selected ns k && not (option_map_or (same_key k) placeholder false))
choice_parts ns placeholder k = go (at_key ns k) refl
  where
    go : (o : Option Node) → at_key ns k ≡ o → option_map_or (is_choice_made placeholder) o false ≡ (option_map_or is_selected o false && not (option_map_or (same_key k) placeholder false))
    go None e = refl
    go (Some n) e = rw (found_key ns k n e) refl

-- an option as the algorithm sees it, by its parts
pub marked_parts : (ns : Nodes) (k : Key) → passes is_option ns k ≡ true → option_map (marked_option ns) (at_key ns k) ≡ Some (k, passes (is_disabled_option ns) ns k, passes is_selected ns k)
marked_parts ns k is = go (at_key ns k) refl is
  where
    go : (o : Option Node) → at_key ns k ≡ o → option_map_or is_option o false ≡ true → option_map (marked_option ns) o ≡ Some (k, option_map_or (is_disabled_option ns) o false, option_map_or is_selected o false)
    go None e h = absurd (cc)
    go (Some n) e h = rw (found_key ns k n e) refl

-- a select's option is an option
pub option_passes : (ns : Nodes) (s k : Key) → is_option_of ns s k ≡ true → passes is_option ns k ≡ true
option_passes ns s k is = go (passes is_option ns k) is
  where
    go : (b : Bool) → option_map_or (same_key s) (cond b (select_above ns (parent_of ns k)) None) false ≡ true → b ≡ true
    go true h = refl
    go false h = absurd (cc)

-- the value of an element that is an option
value_there : (names : List (List ℕ)) (ns : Nodes) (n : Node) → is_option n ≡ true → value_at names ns n ≡ option_value n
value_there names ns n is = go n.tag is
  where
    go : (t : Tag) → is_option_tag t ≡ true
        → cond (is_input_tag t) (input_value names n) (cond (is_textarea_tag t) (with_lf n.state.value) (cond (is_select_tag t) (select_value ns n.key) (cond (is_button_tag t) (value_attr_or [] n) (cond (is_option_tag t) (option_value n) [])))) ≡ option_value n
    go tags.Choice h = refl
    go tags.Form h = absurd (cc)
    go tags.Fieldset h = absurd (cc)
    go tags.Legend h = absurd (cc)
    go tags.Input h = absurd (cc)
    go tags.Select h = absurd (cc)
    go tags.Optgroup h = absurd (cc)
    go tags.Textarea h = absurd (cc)
    go tags.Button h = absurd (cc)
    go tags.Datalist h = absurd (cc)
    go tags.Other h = absurd (cc)

pub value_known : (names : List (List ℕ)) (ns : Nodes) (k : Key) (value : List ℕ) → passes is_option ns k ≡ true → option_map option_value (at_key ns k) ≡ Some value → value_of names ns k ≡ value
value_known names ns k value is told = go (at_key ns k) is told
  where
    go : (o : Option Node) → option_map_or is_option o false ≡ true → option_map option_value o ≡ Some value → option_map_or (value_at names ns) o [] ≡ value
    go None h t = absurd (cc)
    go (Some n) h t = value_there names ns n h ∙ same_Some (option_value n) value t

-- ---- texts of whitespace alone

-- what stands in front of the words of what is behind a byte
word_more : (b : ℕ) (parts : List (List ℕ)) → is_empty_text (join_with_byte 32 (filter is_not_empty (onto_first b parts))) ≡ false
word_more b [] = refl
word_more b (part ∷ parts) = go (filter is_not_empty parts)
  where
    go : (ws : List (List ℕ)) → is_empty_text (join_with_byte 32 ((b ∷ part) ∷ ws)) ≡ false
    go [] = refl
    go (w ∷ ws) = refl

-- a text has no word where it is whitespace alone
pub blank_text : (text : List ℕ) → is_empty_text (stripped_and_collapsed text) ≡ list_all is_ascii_whitespace text
blank_text [] = refl
blank_text (b ∷ text) = go (blank_text text) (is_ascii_whitespace b)
  where
    go : is_empty_text (stripped_and_collapsed text) ≡ list_all is_ascii_whitespace text → (t : Bool)
        → is_empty_text (join_with_byte 32 (filter is_not_empty (cond t ([] ∷ slice_split is_ascii_whitespace text) (onto_first b (slice_split is_ascii_whitespace text))))) ≡ (t && list_all is_ascii_whitespace text)
    go rest true = rest
    go rest false = word_more b (slice_split is_ascii_whitespace text)
