-- The acts that change one element alone, and the withdrawal of a file, keep a page settled.
use Rattle.std.proofs.Common.{◌≡◌, ℕ, Bool, true, false, not, ◌&&◌, cond, List, [], Some, refl, ap, ◌∙◌, codes}
use Rattle.std.proofs.lemmas.Bool.{and_parts, both_ways}
use Rattle.form_types.specs.declared.kind.Mode.{Mode}
use Rattle.form_types.specs.declared.kind.Mode.TheVariants as modes
use Rattle.form_types.specs.TypeTable.{mode_of}
use Rattle.form_tree.specs.declared.node.Key.{Key}
use Rattle.form_tree.specs.declared.node.Node.{Node}
use Rattle.form_tree.specs.Attributes.{set_attr}
use Rattle.form_tree.specs.Elements.{is_input, is_textarea, kind_of}
use Rattle.form_tree.specs.Tree.{Nodes, attr_in}
use Rattle.form_acts.specs.Acts.{after_choose, after_custom, after_set, after_text, after_user, after_withdraw}
use Rattle.form_changes.specs.Changing.{chosen, given, given_in, retold, typed, typed_text, with_message, without_file_number}
use Rattle.form_acts.specs.Soundness.{HasSanitisedValue, IsSettled}
use Rattle.form_changes.specs.Values.{has_kept_value, is_value_mode, sanitised_as}
use Rattle.form_acts.proofs.ResetLaws.{no_input}
use Rattle.form_acts.proofs.SoundLaws.{sound_but_nobody, sound_from}
use Rattle.form_acts.proofs.Still.{IsApart, IsStill, kind_same, still_all, still_attr, still_by, still_of, still_settled}
use Rattle.form_changes.proofs.ValueLaws.{sanitised_again}

-- what a text was sanitised to is sanitised
again : (n : Node) (text : List ℕ) → sanitised_as n (sanitised_as n text) ≡ sanitised_as n text
again n text = sanitised_again (kind_of n) (attr_in n.attrs (codes "min")) (attr_in n.attrs (codes "max")) (attr_in n.attrs (codes "step")) (attr_in n.attrs (codes "value")) text

-- ---- the user's text

abbrev typed_kept : List ℕ → Node → Node
typed_kept text n = record n { state = record n.state { value = sanitised_as n text; dirty = true; by_user = true; typed = typed_text n text } }

abbrev typed_plain : List ℕ → Node → Node
typed_plain text n = record n { state = record n.state { value = text; dirty = true; by_user = true } }

typed_still : (text : List ℕ) → IsStill (typed text)
typed_still text = still_by has_kept_value (typed_kept text) (typed_plain text)
    (still_of (typed_kept text) (record { key = λ n. refl; parent = λ n. refl; tag = λ n. refl; attrs = λ n. refl }) (λ n h. record { by_user = λ e. refl; typed = λ e. absurd (cc) }) (λ n h. h) (λ n h. h))
    (still_of (typed_plain text) (record { key = λ n. refl; parent = λ n. refl; tag = λ n. refl; attrs = λ n. refl }) (λ n h. record { by_user = λ e. refl; typed = λ e. absurd (cc) }) (λ n h. h) (λ n h. h))

typed_sanitised : (text : List ℕ) (n : Node) → HasSanitisedValue n → HasSanitisedValue (typed text n)
typed_sanitised text n h = go (has_kept_value n) refl
  where
    go : (b : Bool) → has_kept_value n ≡ b → HasSanitisedValue (cond b (typed_kept text n) (typed_plain text n))
    go true e kept = again n text
    go false e kept = absurd (both_ways _ e kept)

pub user_settled : (t : Nodes) (k : Key) (text : List ℕ) → IsSettled t → IsSettled (after_user t k text)
user_settled t k text sound = still_settled (typed text) (typed_still text) (typed_sanitised text) t k sound

-- ---- the script's text

abbrev given_kept : List ℕ → Node → Node
given_kept text n = record n { state = record n.state { value = sanitised_as n text; dirty = true; by_user = false; typed = [] } }

abbrev given_plain : List ℕ → Node → Node
given_plain text n = record n { state = record n.state { value = text; dirty = true; by_user = false; typed = [] } }

abbrev no_files : Node → Node
no_files n = record n { state = record n.state { files = [] } }

value_apart : IsApart (codes "value")
value_apart = record { type = refl; name_attr = refl; form = refl; id = refl; multiple = refl }

-- whatever the mode is
by_mode : (P : (Node → Node) → Type 0) (text : List ℕ) → P (given_kept text) → P (set_attr (codes "value") (Some text)) → P no_files → (m : Mode) → P (given_in m text)
by_mode P text kept attr files modes.Value = kept
by_mode P text kept attr files modes.Default = attr
by_mode P text kept attr files modes.DefaultOn = attr
by_mode P text kept attr files modes.Filename = files

given_in_still : (text : List ℕ) (m : Mode) → IsStill (given_in m text)
given_in_still text m = by_mode IsStill text
    (still_of (given_kept text) (record { key = λ n. refl; parent = λ n. refl; tag = λ n. refl; attrs = λ n. refl }) (λ n h. record { by_user = λ e. absurd (cc); typed = λ e. refl }) (λ n h. h) (λ n h. h))
    (still_attr (codes "value") value_apart (Some text))
    (still_of no_files (record { key = λ n. refl; parent = λ n. refl; tag = λ n. refl; attrs = λ n. refl }) (λ n h. record { by_user = h.by_user; typed = h.typed }) (λ n h. h) (λ n h. h))
    m

-- the mode is that of each element
given_moded : (text : List ℕ) → IsStill (λ n. given_in (mode_of (kind_of n)) text n)
given_moded text = record {
  owners = record {
    key = λ n. (given_in_still text (mode_of (kind_of n))).owners.key n;
    parent = λ n. (given_in_still text (mode_of (kind_of n))).owners.parent n;
    tag = λ n. (given_in_still text (mode_of (kind_of n))).owners.tag n;
    form = λ n. (given_in_still text (mode_of (kind_of n))).owners.form n;
    id = λ n. (given_in_still text (mode_of (kind_of n))).owners.id n;
  };
  radio = λ n. (given_in_still text (mode_of (kind_of n))).radio n;
  name = λ n. (given_in_still text (mode_of (kind_of n))).name n;
  multiple = λ n. (given_in_still text (mode_of (kind_of n))).multiple n;
  names = λ n. (given_in_still text (mode_of (kind_of n))).names n;
  marks = λ n. (given_in_still text (mode_of (kind_of n))).marks n;
  checked = λ n. (given_in_still text (mode_of (kind_of n))).checked n;
  selected = λ n. (given_in_still text (mode_of (kind_of n))).selected n;
}

pub given_still : (text : List ℕ) → IsStill (given text)
given_still text = still_by is_input (λ n. given_in (mode_of (kind_of n)) text n) (given_plain text) (given_moded text)
    (still_of (given_plain text) (record { key = λ n. refl; parent = λ n. refl; tag = λ n. refl; attrs = λ n. refl }) (λ n h. record { by_user = λ e. absurd (cc); typed = λ e. refl }) (λ n h. h) (λ n h. h))

given_sanitised : (text : List ℕ) (n : Node) → HasSanitisedValue n → HasSanitisedValue (given text n)
given_sanitised text n h = go (is_input n) refl
  where
    -- an input with an attribute set is in the same mode
    other_mode : (m : Mode) → mode_of (kind_of n) ≡ m → is_value_mode m ≡ false → HasSanitisedValue (set_attr (codes "value") (Some text) n)
    other_mode m e other kept =
        absurd (both_ways _ (ap (λ k. is_value_mode (mode_of k)) (kind_same (codes "value") (Some text) refl n) ∙ ap is_value_mode e ∙ other) (and_parts (is_input n) _ kept).1)

    in_mode : (m : Mode) → mode_of (kind_of n) ≡ m → HasSanitisedValue (given_in m text n)
    in_mode modes.Value e = λ kept. again n text
    in_mode modes.Default e = other_mode modes.Default e refl
    in_mode modes.DefaultOn e = other_mode modes.DefaultOn e refl
    in_mode modes.Filename e = h

    go : (b : Bool) → is_input n ≡ b → HasSanitisedValue (cond b (given_in (mode_of (kind_of n)) text n) (given_plain text n))
    go true e = in_mode (mode_of (kind_of n)) refl
    go false e = λ kept. absurd (both_ways _ e (and_parts (is_input n) _ kept).0)

pub set_settled : (t : Nodes) (k : Key) (text : List ℕ) → IsSettled t → IsSettled (after_set t k text)
set_settled t k text sound = still_settled (given text) (given_still text) (given_sanitised text) t k sound

-- ---- another text

abbrev retold_raw : List ℕ → Node → Node
retold_raw text n = record n { text = text; state = record n.state { value = text } }

abbrev retold_plain : List ℕ → Node → Node
retold_plain text n = record n { text = text }

retold_still : (text : List ℕ) → IsStill (retold text)
retold_still text = still_by (λ n. is_textarea n && not n.state.dirty) (retold_raw text) (retold_plain text)
    (still_of (retold_raw text) (record { key = λ n. refl; parent = λ n. refl; tag = λ n. refl; attrs = λ n. refl }) (λ n h. record { by_user = h.by_user; typed = h.typed }) (λ n h. h) (λ n h. h))
    (still_of (retold_plain text) (record { key = λ n. refl; parent = λ n. refl; tag = λ n. refl; attrs = λ n. refl }) (λ n h. record { by_user = h.by_user; typed = h.typed }) (λ n h. h) (λ n h. h))

retold_sanitised : (text : List ℕ) (n : Node) → HasSanitisedValue n → HasSanitisedValue (retold text n)
retold_sanitised text n h = go (is_textarea n && not n.state.dirty) refl
  where
    go : (b : Bool) → (is_textarea n && not n.state.dirty) ≡ b → HasSanitisedValue (cond b (retold_raw text n) (retold_plain text n))
    go true e = λ kept. absurd (both_ways _ (no_input n.tag (and_parts (is_textarea n) _ e).0) (and_parts (is_input n) _ kept).0)
    go false e = h

pub text_settled : (t : Nodes) (k : Key) (text : List ℕ) → IsSettled t → IsSettled (after_text t k text)
text_settled t k text sound = still_settled (retold text) (retold_still text) (retold_sanitised text) t k sound

-- ---- messages and files

message_still : (text : List ℕ) → IsStill (with_message text)
message_still text = still_of (with_message text) (record { key = λ n. refl; parent = λ n. refl; tag = λ n. refl; attrs = λ n. refl }) (λ n h. record { by_user = h.by_user; typed = h.typed }) (λ n h. h) (λ n h. h)

pub custom_settled : (t : Nodes) (k : Key) (text : List ℕ) → IsSettled t → IsSettled (after_custom t k text)
custom_settled t k text sound = still_settled (with_message text) (message_still text) (λ n h. h) t k sound

chosen_still : (files : List ℕ) → IsStill (chosen files)
chosen_still files = still_of (chosen files) (record { key = λ n. refl; parent = λ n. refl; tag = λ n. refl; attrs = λ n. refl }) (λ n h. record { by_user = h.by_user; typed = h.typed }) (λ n h. h) (λ n h. h)

pub choose_settled : (t : Nodes) (k : Key) (files : List ℕ) → IsSettled t → IsSettled (after_choose t k files)
choose_settled t k files sound = still_settled (chosen files) (chosen_still files) (λ n h. h) t k sound

without_still : (file : ℕ) → IsStill (without_file_number file)
without_still file = still_of (without_file_number file) (record { key = λ n. refl; parent = λ n. refl; tag = λ n. refl; attrs = λ n. refl }) (λ n h. record { by_user = h.by_user; typed = h.typed }) (λ n h. h) (λ n h. h)

pub withdraw_settled : (t : Nodes) (file : ℕ) → IsSettled t → IsSettled (after_withdraw t file)
withdraw_settled t file sound = sound_from _ (still_all (without_file_number file) (without_still file) (λ n h. h) (λ n. true) t (sound_but_nobody t sound))
