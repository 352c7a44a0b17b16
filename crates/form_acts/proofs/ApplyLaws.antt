-- What an act makes of a page, by the raw changes that it comes to.
use Rattle.std.proofs.Common.{◌≡◌, List, [], ◌++◌, None, IsSome, IfSome, Result, Ok, Err, refl, sym, ap, ◌∙◌, subst}
use Rattle.std.specs.Result.{OnErr, OnOk}
use Rattle.std.proofs.lemmas.List.{append-nil}
use Rattle.std.proofs.lemmas.List.Elements.{All-append, All-cons, All-nil}
use Rattle.form_tree.specs.Tree.{Nodes, place_of}
use Rattle.form_page.specs.declared.edit.Edit.{Edit}
use Rattle.form_page.specs.declared.edit.Edit.TheVariants.{Gone}
use Rattle.form_page.specs.Editing.{AreThere, after_edit, edited, edited_key}
use Rattle.form_page.specs.Page.{Page}
use Rattle.form_acts.proofs.ActSound.{act_sound}
use Rattle.form_drafts.proofs.DraftLaws.{edited_last}
use Rattle.form_changes.specs.declared.act.Act.{Act}
use Rattle.form_changes.specs.declared.act.Act.TheVariants as acts
use Rattle.form_acts.specs.Acts.{after_act, files_after_act, gone_of, nodes_after_act, outcome, page_unless}
use Rattle.form_drafts.specs.Drafts.{Draft, draft_of, page_with}
use Rattle.form_acts.specs.Refusals.{refusal_of}
use Rattle.form_acts.specs.Soundness.{IsSound}

-- no file is gone
plain : (page : Page) (act : Act) (edits : List Edit) → edited page edits ≡ page_with page (nodes_after_act page.tree.nodes act) → files_after_act page.files act ≡ page.files → edited page (edits ++ []) ≡ after_act page act
plain page act edits made files =
    ap (edited page) (append-nil edits) ∙ made
    ∙ ap (λ fs. let p : Page = record { tree = record page.tree { nodes = nodes_after_act page.tree.nodes act }; files = fs } in p) (sym files)

all_made : (page : Page) (act : Act) (edits : List Edit) → edited page edits ≡ page_with page (nodes_after_act page.tree.nodes act) → edited page (edits ++ gone_of act) ≡ after_act page act
all_made page (acts.User k text) edits made = plain page (acts.User k text) edits made refl
all_made page (acts.Set k text) edits made = plain page (acts.Set k text) edits made refl
all_made page (acts.Attr k name value) edits made = plain page (acts.Attr k name value) edits made refl
all_made page (acts.Text k text) edits made = plain page (acts.Text k text) edits made refl
all_made page (acts.Check k on) edits made = plain page (acts.Check k on) edits made refl
all_made page (acts.SetChecked k on) edits made = plain page (acts.SetChecked k on) edits made refl
all_made page (acts.Pick k) edits made = plain page (acts.Pick k) edits made refl
all_made page (acts.SetSelected k on) edits made = plain page (acts.SetSelected k on) edits made refl
all_made page (acts.Custom k text) edits made = plain page (acts.Custom k text) edits made refl
all_made page (acts.Choose k files) edits made = plain page (acts.Choose k files) edits made refl
all_made page (acts.Withdraw file) edits made = edited_last page edits (Gone file) ∙ ap (λ (p : Page). after_edit p (Gone file)) made
all_made page (acts.Reset k) edits made = plain page (acts.Reset k) edits made refl

-- the raw changes of a draft, and the file that is gone
pub edits_made : (page : Page) (act : Act) (draft : Draft) (edits all : List Edit) → draft ≡ draft_of page (nodes_after_act page.tree.nodes act) → edited draft.page edits ≡ page_with draft.page draft.nodes → all ≡ edits ++ gone_of act → edited page all ≡ after_act page act
edits_made page act draft edits all is made whole =
    ap (edited page) whole
    ∙ all_made page act edits (subst (λ (d : Draft). edited d.page edits ≡ page_with d.page d.nodes) is made)

gone_there : (ns : Nodes) (act : Act) → AreThere ns (gone_of act)
gone_there ns (acts.Withdraw file) = All-cons (λ e. IfSome (edited_key e) (λ k. IsSome (place_of ns k))) (Gone file) [] tt (All-nil (λ e. IfSome (edited_key e) (λ k. IsSome (place_of ns k))))
gone_there ns act = All-nil (λ e. IfSome (edited_key e) (λ k. IsSome (place_of ns k)))

pub edits_are_there : (page : Page) (act : Act) (draft : Draft) (edits all : List Edit) (ns : Nodes) → draft ≡ draft_of page ns → AreThere draft.page.tree.nodes edits → all ≡ edits ++ gone_of act → AreThere page.tree.nodes all
edits_are_there page act draft edits all ns is there whole =
    subst (AreThere page.tree.nodes) (sym whole)
    (All-append (λ e. IfSome (edited_key e) (λ k. IsSome (place_of page.tree.nodes k))) edits (gone_of act)
    (subst (λ (d : Draft). AreThere d.page.tree.nodes edits) is there) (gone_there page.tree.nodes act))

-- a sound page stays sound, whatever comes of the act
pub sound_after : {T E : Type 0} (r : Result T E) (page next : Page) (act : Act) → OnOk r (next ≡ outcome page act) → OnErr r (next ≡ page) → IsSound page → IsSound next
sound_after (Ok x) page next act is kept sound = subst IsSound (sym is) (act_sound page act sound)
sound_after (Err e) page next act is kept sound = subst IsSound (sym kept) sound

-- the outcome of an act that nothing refuses
pub not_refused : (page : Page) (act : Act) → None ≡ refusal_of page act → after_act page act ≡ outcome page act
not_refused page act none = ap (λ o. page_unless o page (after_act page act)) none
