-- What each act makes of a page, where nothing refuses it: the change of its element, then the radio
-- buttons, then the options, then the value.
use Rattle.std.specs.Prelude.{ℕ, ◌&&◌, ◌||◌, not, Bool, true, false, List, [], ◌∷◌, map, Option, Some, None, is_some, if◌then◌else◌}
use Rattle.std.specs.Option.{option_map_or}
use Rattle.form_tree.specs.declared.node.Key.{Key}
use Rattle.form_tree.specs.Elements.{has_attr, passes}
use Rattle.form_tree.specs.Selects.{is_multiple, is_selected, select_of}
use Rattle.form_tree.specs.Tree.{Nodes, with_node}
use Rattle.form_page.specs.declared.file.File.{File}
use Rattle.form_page.specs.declared.edit.Edit.{Edit}
use Rattle.form_page.specs.declared.edit.Edit.TheVariants.{Gone}
use Rattle.form_page.specs.Editing.{without_file}
use Rattle.form_page.specs.Page.{Page}
use Rattle.form_page.specs.Settling.{moved_inputs, with_radio, with_radios, with_selectedness}
use Rattle.form_changes.specs.declared.act.Act.{Act}
use Rattle.form_changes.specs.declared.act.Act.TheVariants as acts
use Rattle.form_changes.specs.declared.act.ActFault.{ActFault}
use Rattle.form_changes.specs.declared.role.Role.{Role}
use Rattle.form_changes.specs.declared.role.Role.TheVariants as roles
use Rattle.form_changes.specs.Changing.{changed_attr, changes_state, chosen, follows_checked, follows_selected, follows_value, given, retold, role_of, set_checked, set_selected, typed, with_message, without_file_number}
use Rattle.form_acts.specs.Refusals.{refusal_of}
use Rattle.form_drafts.specs.Drafts.{with_select_of, with_selected}
use Rattle.form_drafts.specs.Resetting.{after_reset}
use Rattle.form_changes.specs.Values.{is_range, with_value}

-- ---- one element alone

abbrev pub after_user : Nodes → Key → List ℕ → Nodes
after_user ns k text = with_node ns k (typed text)

abbrev pub after_set : Nodes → Key → List ℕ → Nodes
after_set ns k text = with_node ns k (given text)

abbrev pub after_text : Nodes → Key → List ℕ → Nodes
after_text ns k text = with_node ns k (retold text)

abbrev pub after_custom : Nodes → Key → List ℕ → Nodes
after_custom ns k text = with_node ns k (with_message text)

abbrev pub after_choose : Nodes → Key → List ℕ → Nodes
after_choose ns k files = with_node ns k (chosen files)

-- every element without that file
abbrev pub after_withdraw : Nodes → ℕ → Nodes
after_withdraw ns file = map (without_file_number file) ns

-- ---- checkedness and selectedness

abbrev pub if_on : Bool → Key → List Key
if_on on k = if on then k ∷ [] else []

-- the checkedness as said; a radio button that is checked unchecks its group (HTML, "Radio Button
-- state")
abbrev pub after_check : Nodes → Key → Bool → Nodes
after_check ns k on = with_radios (with_node ns k (set_checked on)) (if_on on k)

-- whether the user's choice selects the option: it is toggled in a `multiple` select
abbrev pub is_picked : Nodes → Key → Bool
is_picked ns k =
    if option_map_or (is_multiple ns) (select_of ns k) false then not (passes is_selected ns k) else true

abbrev pub after_pick : Nodes → Key → Nodes
after_pick ns k = with_selected (with_node ns k (set_selected (is_picked ns k))) k (is_picked ns k)

abbrev pub after_set_selected : Nodes → Key → Bool → Nodes
after_set_selected ns k on = with_select_of (with_selected (with_node ns k (set_selected on)) k on) k

-- ---- attributes

-- What follows a change of an attribute of that role for others: of the elements t they are u with
-- the change made.
abbrev pub settled_after : Role → List ℕ → Option (List ℕ) → Nodes → Key → Nodes → Nodes
-- an input that comes to another state is taken as a radio button, and its value is sanitised
settled_after roles.Type name value t k u =
    if passes (changes_state name value) t k then with_value (with_radio u k) k else u
-- the value that follows the attribute is sanitised, and that of the state range
settled_after roles.Value name value t k u =
    if passes (λ n. follows_value n || is_range n) t k then with_value u k else u
-- the value of the state range is sanitised again
settled_after roles.Limit name value t k u = if passes is_range t k then with_value u k else u
-- an input that the attribute checks
settled_after roles.Checked name value t k u =
    with_radios u (if_on (passes (follows_checked (is_some value)) t k && is_some value) k)
-- the element comes to the group of its new name
settled_after roles.Name name value t k u = with_radio u k
-- all owners change, and then the inputs that moved are taken in tree order
settled_after roles.Owner name value t k u = with_radios u (moved_inputs t u)
-- an option that the attribute selects or unselects, and its select
settled_after roles.Selected name value t k u =
    if passes (follows_selected (is_some value)) t k then with_select_of (with_selected u k (is_some value)) k else u
-- the select itself; another element has no options
settled_after roles.Size name value t k u = with_selectedness u k
settled_after roles.Plain name value t k u = u

-- an attribute set, or taken away where there is no value: taking away one that is not there changes
-- nothing (DOM, "attribute change steps")
abbrev pub is_attr_change : Nodes → Key → List ℕ → Option (List ℕ) → Bool
is_attr_change ns k name value = is_some value || passes (has_attr name) ns k

abbrev pub after_change : Role → Nodes → Key → List ℕ → Option (List ℕ) → Nodes
after_change role ns k name value =
    settled_after role name value ns k (with_node ns k (changed_attr role name value))

abbrev pub after_attr : Nodes → Key → List ℕ → Option (List ℕ) → Nodes
after_attr ns k name value =
    if is_attr_change ns k name value then after_change (role_of name) ns k name value else ns

-- ---- all acts

-- the elements after an act
abbrev pub nodes_after_act : Nodes → Act → Nodes
nodes_after_act ns (acts.User k text) = after_user ns k text
nodes_after_act ns (acts.Set k text) = after_set ns k text
nodes_after_act ns (acts.Attr k name value) = after_attr ns k name value
nodes_after_act ns (acts.Text k text) = after_text ns k text
nodes_after_act ns (acts.Check k on) = after_check ns k on
nodes_after_act ns (acts.SetChecked k on) = after_check ns k on
nodes_after_act ns (acts.Pick k) = after_pick ns k
nodes_after_act ns (acts.SetSelected k on) = after_set_selected ns k on
nodes_after_act ns (acts.Custom k text) = after_custom ns k text
nodes_after_act ns (acts.Choose k files) = after_choose ns k files
nodes_after_act ns (acts.Withdraw file) = after_withdraw ns file
nodes_after_act ns (acts.Reset k) = after_reset ns k

-- the files after an act: one that is withdrawn is no longer there
abbrev pub files_after_act : List File → Act → List File
files_after_act files (acts.Withdraw file) = without_file files file
files_after_act files act = files

-- the raw change of the files that an act makes
abbrev pub gone_of : Act → List Edit
gone_of (acts.Withdraw file) = Gone file ∷ []
gone_of act = []

-- the page after an act that nothing refuses
abbrev pub after_act : Page → Act → Page
after_act page act = record {
  tree = record page.tree { nodes = nodes_after_act page.tree.nodes act };
  files = files_after_act page.files act;
}

abbrev pub page_unless : Option ActFault → Page → Page → Page
page_unless None before after = after
page_unless (Some fault) before after = before

-- the page after an act: as it was where the act is refused
abbrev pub outcome : Page → Act → Page
outcome page act = page_unless (refusal_of page act) page (after_act page act)
