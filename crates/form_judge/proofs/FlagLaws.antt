-- What the flags depend on, and that the tests among them say what the rules say.
use Rattle.std.proofs.Common.{◌≡◌, Bool, true, false, ◌&&◌, ◌||◌, not, [], ◌∷◌, refl, ap, ◌∙◌}
use Rattle.std.specs.Prelude.{ℤ, Option, Some, None, IfSome, filter, option_map}
use Rattle.std.specs.List.{list_any}
use Rattle.std.specs.Option.{option_map_or}
use Rattle.form_types.specs.declared.kind.Kind.{Kind}
use Rattle.form_types.specs.declared.kind.Kind.TheVariants as kinds
use Rattle.form_types.specs.TypeTable.{is_one_of, row_of}
use Rattle.form_decimal.specs.Alignment.{IsAligned}
use Rattle.form_decimal.specs.Nearest.{is_aligned}
use Rattle.form_decimal.proofs.Laws.{aligned_again, aligned_found}
use Rattle.form_states.specs.declared.limits.Limits.{Limits}
use Rattle.form_states.specs.Limits.{IsOnStep, IsStep}
use Rattle.form_tree.specs.declared.node.Key.{Key}
use Rattle.form_tree.specs.declared.node.Node.{Node}
use Rattle.form_tree.specs.Disabling.{is_disabled, is_mutable, is_read_only}
use Rattle.form_tree.specs.Elements.{is_input, is_textarea, passes, same_key, same_owner}
use Rattle.form_tree.specs.Ownership.{owner_of}
use Rattle.form_tree.specs.RadioGroup.{is_checked, is_group_missing, is_radio, is_required, name_of, radio_group, same_name, share_group}
use Rattle.form_tree.specs.Tree.{Nodes, at_key}
use Rattle.form_tree.proofs.Laws.{passes_found}
use Rattle.form_judge.specs.declared.flags.Facts.{Facts}
use Rattle.form_judge.specs.Controls.{may_lack_number}
use Rattle.form_judge.specs.Flags.{facts_of, flags_at, flags_of, is_off_step}

-- the same node and the same facts have the same flags
pub same_flags : (n m : Node) (f g : Facts) → n ≡ m → f ≡ g → flags_of n f ≡ flags_of m g
same_flags n m f g nodes facts = ap (λ (x : Node). flags_of x f) nodes ∙ ap (flags_of m) facts

-- so a control has the same flags on two pages where it is the same node and the facts are the same
pub same_flags_at : (t u : Nodes) (k : Key) → at_key t k ≡ at_key u k → facts_of t k ≡ facts_of u k → flags_at t k ≡ flags_at u k
same_flags_at t u k nodes facts =
    ap (option_map (λ (n : Node). flags_of n (facts_of t k))) nodes
    ∙ ap (λ (f : Facts). option_map (λ (n : Node). flags_of n f) (at_key u k)) facts

not_off : (b : Bool) → not b ≡ false → b ≡ true
not_off true h = refl
not_off false h = absurd (cc)

-- no step mismatch: a whole number of steps leads from the step base to the number, or there is no step
pub on_step : (limits : Limits) (number : ℤ) → IfSome limits.step IsStep → is_off_step limits number ≡ false → IsOnStep limits number
on_step limits number = go limits.step
  where
    go : (step : Option ℤ) → IfSome step IsStep → option_map_or (λ s. not (is_aligned number limits.base s)) step false ≡ false → IfSome step (λ s. IsAligned number limits.base s)
    go None some h = tt
    go (Some s) some h = aligned_found number limits.base s some.0 (not_off (is_aligned number limits.base s) h)

-- and back
pub off_step : (limits : Limits) (number : ℤ) → IfSome limits.step IsStep → IsOnStep limits number → is_off_step limits number ≡ false
off_step limits number = go limits.step
  where
    go : (step : Option ℤ) → IfSome step IsStep → IfSome step (λ s. IsAligned number limits.base s) → option_map_or (λ s. not (is_aligned number limits.base s)) step false ≡ false
    go None some h = refl
    go (Some s) some h = ap not (aligned_again number limits.base s some.0 h)

-- a text control that is neither read-only nor disabled is mutable
pub mutable_is : (t : Nodes) (k : Key) (n : Node) → at_key t k ≡ Some n → (is_input n || is_textarea n) ≡ true → is_mutable t k ≡ not (is_read_only n || is_disabled t k)
mutable_is t k n found text =
    ap (λ (b : Bool). b && not (is_disabled t k)) (passes_found (λ (m : Node). (is_input m || is_textarea m) && not (is_read_only m)) t k n found)
    ∙ go (is_input n || is_textarea n) (is_read_only n) (is_disabled t k) text
  where
    go : (a r d : Bool) → a ≡ true → ((a && not r) && not d) ≡ not (r || d)
    go true true d h = refl
    go true false d h = refl
    go false r d h = absurd (cc)

-- the states with numbers that may be without a value, by name
pub bad_input_states : (kind : Kind) → may_lack_number kind ≡ is_one_of kind (kinds.Date ∷ kinds.Month ∷ kinds.Week ∷ kinds.Time ∷ kinds.Local ∷ kinds.Number ∷ [])
unfolding row_of
bad_input_states kinds.Hidden = refl
bad_input_states kind = refl

none_pass : (p : Node → Bool) → ((n : Node) → p n ≡ false) → (t : Nodes) → filter p t ≡ []
none_pass p none [] = refl
none_pass p none (n ∷ t) = rw (none n) (none_pass p none t)

-- an element that is no radio button has no group
pub no_members : (t : Nodes) (k : Key) → passes is_radio t k ≡ false → radio_group t k ≡ []
no_members t k other = none_pass (λ n. share_group t k n.key) (λ n. alone n.key) t
  where
    alone : (j : Key) → share_group t k j ≡ false
    alone j = ap (λ (b : Bool). b && passes is_radio t j && (same_key k j || (same_owner (owner_of t k) (owner_of t j) && same_name (name_of t k) (name_of t j)))) other

-- and so none that could lack a choice
pub no_group : (t : Nodes) (k : Key) → passes is_radio t k ≡ false → is_group_missing t k ≡ false
no_group t k other = ap (λ (group : Nodes). list_any is_required group && not (list_any is_checked group)) (no_members t k other)
