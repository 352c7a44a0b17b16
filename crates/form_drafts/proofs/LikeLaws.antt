-- Lists of elements that differ in states alone, and the steps along radio buttons.
use Rattle.std.proofs.Common.{◌≡◌, Bool, true, false, cond, List, [], ◌∷◌, map, Result, refl, sym, ap, ap₂, ◌∙◌, subst}
use Rattle.std.specs.List.{fold}
use Rattle.std.specs.Result.{OnOk}
use Rattle.std.proofs.lemmas.Result.{on_ok_weaker}
use Rattle.std.proofs.lemmas.Bool.{cond_both}
use Rattle.form_tree.proofs.Laws.{KeepsElements, keeps_where, owner_of_map, share_group_map}
use Rattle.form_tree.specs.declared.node.Key.{Key}
use Rattle.form_tree.specs.declared.node.Node.{Node}
use Rattle.form_tree.specs.Elements.{is_select, is_textarea, passes}
use Rattle.form_tree.specs.Selects.{is_option_of}
use Rattle.form_tree.specs.RadioGroup.{is_checked, radio_group, share_group}
use Rattle.form_tree.specs.Tree.{Nodes, is_key, with_node}
use Rattle.form_page.specs.Page.{Page}
use Rattle.form_page.specs.Settling.{changed_but, off, with_radio, with_selectedness}
use Rattle.form_drafts.proofs.Mild.{IsMild, changed_where, through_radio, through_selectedness, through_value}
use Rattle.form_drafts.proofs.EachLaws.{IsOnce, others_made}
use Rattle.form_drafts.proofs.SoFarLaws.{frame_group}
use Rattle.form_changes.specs.Changing.{set_checked}
use Rattle.form_drafts.specs.Drafts.{AreFramed, AreLike, AreOwnedBy, Draft, HaveGroupsOf, HaveOwnersOf, Moved, bare, draft_of, keys_but, with_each}
use Rattle.form_drafts.specs.Resetting.{reset_input, reset_option, reset_textarea, with_options_reset, with_reset}
use Rattle.form_changes.specs.Values.{with_value}

abbrev keys : Nodes → List Key
keys ns = map (λ n. n.key) ns

-- ---- what is kept

pub bare_same : (n m : Node) → m.key ≡ n.key → m.parent ≡ n.parent → m.tag ≡ n.tag → m.attrs ≡ n.attrs → bare m ≡ bare n
bare_same n m key parent tag attrs = rw (key, parent, tag, attrs) refl

pub like_where : (t : Nodes) (f : Node → Node) → ((n : Node) → bare (f n) ≡ bare n) → (test : Node → Bool) (u : Nodes) → AreLike u t → AreLike (changed_where test f u) t
like_where t f same test u like = go u ∙ like
  where
    go : (xs : Nodes) → map bare (map (λ n. cond (test n) (f n) n) xs) ≡ map bare xs
    go [] = refl
    go (n ∷ xs) = ap₂ (λ (m : Node) (rest : Nodes). m ∷ rest) (cond_both (test n) (f n) n (λ m. bare m ≡ bare n) (λ _. same n) (λ _. refl)) (go xs)

like_mild : (t : Nodes) (f : Node → Node) → IsMild f → (test : Node → Bool) (u : Nodes) → AreLike u t → AreLike (changed_where test f u) t
like_mild t f mild test u like = like_where t f (λ n. bare_same n (f n) (mild.key n) (mild.parent n) (mild.tag n) (mild.attrs n)) test u like

bare_keeps : KeepsElements bare
bare_keeps = record { key = λ n. refl; parent = λ n. refl; tag = λ n. refl; attrs = λ n. refl }

like_shared : (u t : Nodes) → AreLike u t → (j k : Key) → share_group u j k ≡ share_group t j k
like_shared u t like j k = sym (share_group_map bare bare_keeps u j k) ∙ ap (λ (ns : Nodes). share_group ns j k) like ∙ share_group_map bare bare_keeps t j k

pub like_groups : (u t : Nodes) → AreLike u t → HaveGroupsOf u t
like_groups u t like j k = like_shared u t like j k

-- ---- radio buttons

pub off_once : IsOnce off
off_once = record { key = λ n. refl; again = λ n. refl }

-- the others of the group unchecked
pub radio_taken : (u : Nodes) (k : Key) (group others : List Key) → passes is_checked u k ≡ true → group ≡ keys (radio_group u k) → others ≡ keys_but k group → with_each off u others ≡ with_radio u k
radio_taken u k group others checked listed left =
    ap (with_each off u) (left ∙ ap (keys_but k) listed) ∙ others_made off off_once (share_group u k) u k ∙ sym (ap (λ (b : Bool). cond b (changed_but off (share_group u k) k u) u) checked)

pub radio_passed : (u : Nodes) (k : Key) → passes is_checked u k ≡ false → with_radio u k ≡ u
radio_passed u k unchecked = ap (λ (b : Bool). cond b (changed_but off (share_group u k) k u) u) unchecked

-- ---- owners

owned_kept : (page : Nodes) (moved : Moved) (f : Node → Node) → KeepsElements f → (test : Node → Bool) (u : Nodes) → AreOwnedBy u page moved → AreOwnedBy (changed_where test f u) page moved
owned_kept page moved f keeps test u owned k = owner_of_map (λ n. cond (test n) (f n) n) (keeps_where test f keeps) u k ∙ owned k

owned_after_radio : (page : Nodes) (moved : Moved) (u : Nodes) (k : Key) → AreOwnedBy u page moved → AreOwnedBy (with_radio u k) page moved
owned_after_radio page moved u k owned = through_radio (λ ns. AreOwnedBy ns page moved) (λ f mild test ns owned. owned_kept page moved f (record { key = mild.key; parent = mild.parent; tag = mild.tag; attrs = mild.attrs }) test ns owned) u k owned

-- ---- resets

pub reset_like : (t u : Nodes) (k : Key) → AreLike u t → AreLike (with_reset u k) t
reset_like t u k like = go (passes is_select u k) (passes is_textarea u k)
  where
    go : (a b : Bool) → AreLike (cond a (with_selectedness (with_options_reset u k) k) (cond b (with_node u k reset_textarea) (with_value (with_radio (with_node u k reset_input) k) k))) t
    go true b = through_selectedness (λ ns. AreLike ns t) (like_mild t) (with_options_reset u k) k (like_where t reset_option (λ n. refl) (λ n. is_option_of u k n.key) u like)
    go false true = like_where t reset_textarea (λ n. refl) (is_key k) u like
    go false false = through_value (λ ns. AreLike ns t) (like_mild t) (with_radio (with_node u k reset_input) k) k (through_radio (λ ns. AreLike ns t) (like_mild t) (with_node u k reset_input) k (like_where t reset_input (λ n. refl) (is_key k) u like))

pub input_like : (t u : Nodes) (k : Key) → AreLike u t → AreLike (with_node u k reset_input) t
input_like t u k like = like_where t reset_input (λ n. refl) (is_key k) u like

pub resets_like : (t : Nodes) (ks : List Key) (u : Nodes) → AreLike u t → AreLike (fold with_reset u ks) t
resets_like t [] u like = like
resets_like t (k ∷ ks) u like = resets_like t ks (with_reset u k) (reset_like t u k like)

-- ---- the draft after a radio button was taken

-- one that is not checked
pub radio_still : (draft : Draft) (k : Key) → false ≡ passes is_checked draft.nodes k → draft ≡ record draft { nodes = with_radio draft.nodes k }
radio_still draft k unchecked = ap (λ (ns : Nodes). record draft { nodes = ns }) (sym (radio_passed draft.nodes k (sym unchecked)))

-- one that is
pub radio_done : {T E : Type 0} (r : Result T E) (draft next : Draft) (k : Key) (group others lent : List Key) → true ≡ passes is_checked draft.nodes k → group ≡ keys (radio_group draft.nodes k) → others ≡ keys_but k group → lent ≡ others
    → OnOk r (next ≡ record draft { nodes = with_each off draft.nodes lent }) → OnOk r (next ≡ record draft { nodes = with_radio draft.nodes k })
radio_done r draft next k group others lent checked listed left is made =
    on_ok_weaker r (λ e. e ∙ ap (λ (ns : Nodes). record draft { nodes = ns }) (ap (with_each off draft.nodes) is ∙ radio_taken draft.nodes k group others (sym checked) listed left)) made

-- the group of the page is that of the elements so far
pub page_group : (draft : Draft) (k : Key) (page : Page) (members : List Key) → HaveGroupsOf draft.nodes draft.page.tree.nodes → AreFramed draft.nodes draft.page.tree.nodes → page ≡ draft.page → members ≡ keys (radio_group page.tree.nodes k) → members ≡ keys (radio_group draft.nodes k)
page_group draft k page members groups like same listed = listed ∙ ap (λ (p : Page). keys (radio_group p.tree.nodes k)) same ∙ frame_group draft.nodes draft.page.tree.nodes like groups k

-- the elements of the next draft are like those of the page too
pub like_next : (draft next : Draft) (k : Key) → next ≡ record draft { nodes = with_reset draft.nodes k } → AreLike draft.nodes draft.page.tree.nodes → AreLike next.nodes next.page.tree.nodes
like_next draft next k made like = subst (λ (d : Draft). AreLike d.nodes d.page.tree.nodes) (sym made) (reset_like draft.page.tree.nodes draft.nodes k like)

pub owned_next : (draft next : Draft) (k : Key) (moved : Moved) → next ≡ record draft { nodes = with_radio draft.nodes k } → AreOwnedBy draft.nodes draft.page.tree.nodes moved → AreOwnedBy next.nodes next.page.tree.nodes moved
owned_next draft next k moved made owned = subst (λ (d : Draft). AreOwnedBy d.nodes d.page.tree.nodes moved) (sym made) (owned_after_radio draft.page.tree.nodes moved draft.nodes k owned)

-- where nothing has moved
pub none_moved : (ns page : Nodes) (moved : Moved) → moved.entries ≡ [] → HaveOwnersOf ns page → AreOwnedBy ns page moved
none_moved ns page moved none owners k = owners k ∙ rw none refl

-- an input that was reset
pub input_next : (draft next : Draft) (k : Key) → next ≡ record draft { nodes = with_node draft.nodes k reset_input } → AreLike draft.nodes draft.page.tree.nodes → HaveGroupsOf next.nodes next.page.tree.nodes
input_next draft next k made like =
    subst (λ (d : Draft). HaveGroupsOf d.nodes d.page.tree.nodes) (sym made) (like_groups (with_node draft.nodes k reset_input) draft.page.tree.nodes (input_like draft.page.tree.nodes draft.nodes k like))

-- an element whose checkedness was set
pub checked_next : (page : Page) (draft next : Draft) (k : Key) (on : Bool) → draft ≡ draft_of page page.tree.nodes → next ≡ record draft { nodes = with_node draft.nodes k (set_checked on) } → HaveGroupsOf next.nodes next.page.tree.nodes
checked_next page draft next k on begun made =
    subst (λ (d : Draft). HaveGroupsOf d.nodes d.page.tree.nodes) (sym (made ∙ ap (λ (d : Draft). let x : Draft = record d { nodes = with_node d.nodes k (set_checked on) } in x) begun))
    (like_groups (with_node page.tree.nodes k (set_checked on)) page.tree.nodes (like_where page.tree.nodes (set_checked on) (λ n. refl) (is_key k) page.tree.nodes refl))

-- ---- the draft after a control was reset

abbrev reset_by : Draft → Key → Bool → Bool → Draft
reset_by draft k select textarea = record draft {
  nodes = cond select (with_selectedness (with_options_reset draft.nodes k) k)
      (cond textarea (with_node draft.nodes k reset_textarea) (with_value (with_radio (with_node draft.nodes k reset_input) k) k));
}

pub reset_of_select : {T E : Type 0} (r : Result T E) (draft next : Draft) (k : Key) → true ≡ passes is_select draft.nodes k → OnOk r (next ≡ record draft { nodes = with_selectedness (with_options_reset draft.nodes k) k }) → OnOk r (next ≡ record draft { nodes = with_reset draft.nodes k })
reset_of_select r draft next k is made = on_ok_weaker r (λ e. e ∙ ap (λ (b : Bool). reset_by draft k b (passes is_textarea draft.nodes k)) is) made

pub reset_of_textarea : {T E : Type 0} (r : Result T E) (draft next : Draft) (k : Key) → false ≡ passes is_select draft.nodes k → true ≡ passes is_textarea draft.nodes k → OnOk r (next ≡ record draft { nodes = with_node draft.nodes k reset_textarea }) → OnOk r (next ≡ record draft { nodes = with_reset draft.nodes k })
reset_of_textarea r draft next k select textarea made = on_ok_weaker r (λ e. e ∙ ap₂ (reset_by draft k) select textarea) made

pub reset_of_input : {T E : Type 0} (r : Result T E) (draft first second last : Draft) (k : Key) → false ≡ passes is_select draft.nodes k → false ≡ passes is_textarea draft.nodes k
    → first ≡ record draft { nodes = with_node draft.nodes k reset_input } → second ≡ record first { nodes = with_radio first.nodes k } → OnOk r (last ≡ record second { nodes = with_value second.nodes k }) → OnOk r (last ≡ record draft { nodes = with_reset draft.nodes k })
reset_of_input r draft first second last k select textarea raw taken made =
    on_ok_weaker r (λ e. e ∙ ap (λ (d : Draft). let x : Draft = record d { nodes = with_value d.nodes k } in x) (taken ∙ ap (λ (d : Draft). let x : Draft = record d { nodes = with_radio d.nodes k } in x) raw)
    ∙ ap₂ (reset_by draft k) select textarea) made
