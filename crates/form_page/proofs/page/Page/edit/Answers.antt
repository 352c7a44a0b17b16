use Rattle.std.proofs.Common.{◌≡◌, ℕ, ◌+◌, ◌++◌, ◌≤◌, drop, length, map, take, sym, ap, ap₂, ◌∙◌, subst}
use Rattle.std.specs.List.{count_by}
use Rattle.std.proofs.lemmas.List.{length-map}
use Rattle.form_tree.specs.Elements.{is_submittable}
use Rattle.form_tree.specs.Tree.{Tree}
use Rattle.form_judge.specs.Controls.{pattern_of}
use Rattle.form_judge.specs.Patterns.{all_recompiled, patterns_by}
use Rattle.form_judge.proofs.Laws.{patterns_stand, recompiled_long}
use Rattle.form_page.specs.Editing.{edited}
use Rattle.form_page.specs.Page.{Page, names_of, page_of}
use Rattle.form_page.specs.Views.{changes, sight_if}
use Rattle.form_page.proofs.ChangeLaws.{keys_found}
use Rattle.form_page.proofs.EditLaws.{count_same, edited_frames, frames_few, frames_long}
use Rattle.form_page.proofs.Lists.{spliced}
use Rattle.form_page.proofs.page.Page.edit.Goals as goal

pub fresh_patterns-requires : goal.fresh_patterns-requires
fresh_patterns-requires g c =
    let same = edited_frames c.self.inside.tree.nodes c.in_ok-tree.tree c.make_edits.new.tree c.in_ok-files.files.items c.make_edits.new.files.items c.args.edits.items (ap (λ (t : Tree). t.nodes) c.in_ok-tree.ensures) c.in_ok-make_edits.ensures in
    ap length c.nodes.ensures.value ∙ sym (frames_long c.self.inside.tree.nodes c.make_edits.new.tree.nodes same) ∙ sym (ap length c.nodes-2.ensures.value)

pub kept_of-requires-clause-kept : goal.kept_of-requires-clause-kept
kept_of-requires-clause-kept g c =
    let same = edited_frames c.self.inside.tree.nodes c.in_ok-tree.tree c.make_edits.new.tree c.in_ok-files.files.items c.make_edits.new.files.items c.args.edits.items (ap (λ (t : Tree). t.nodes) c.in_ok-tree.ensures) c.in_ok-make_edits.ensures in
    ap length (c.deref_mut.ensures.value ∙ c.self.invariant.2) ∙ length-map c.self.inside.tree.nodes pattern_of ∙ sym (frames_long c.self.inside.tree.nodes c.make_edits.new.tree.nodes same)

pub kept_of-requires-clause-fresh : goal.kept_of-requires-clause-fresh
kept_of-requires-clause-fresh g c =
    let same = edited_frames c.self.inside.tree.nodes c.in_ok-tree.tree c.make_edits.new.tree c.in_ok-files.files.items c.make_edits.new.files.items c.args.edits.items (ap (λ (t : Tree). t.nodes) c.in_ok-tree.ensures) c.in_ok-make_edits.ensures in
    ap length (c.deref_mut-2.ensures.value ∙ c.in_ok-fresh.ensures ∙ ap₂ all_recompiled c.nodes.ensures.value c.nodes-2.ensures.value)
    ∙ recompiled_long c.self.inside.tree.nodes c.make_edits.new.tree.nodes (sym (frames_long c.self.inside.tree.nodes c.make_edits.new.tree.nodes same))

pub kept_of-requires-clause-patterns : goal.kept_of-requires-clause-patterns
kept_of-requires-clause-patterns g c =
    let same = edited_frames c.self.inside.tree.nodes c.in_ok-tree.tree c.make_edits.new.tree c.in_ok-files.files.items c.make_edits.new.files.items c.args.edits.items (ap (λ (t : Tree). t.nodes) c.in_ok-tree.ensures) c.in_ok-make_edits.ensures in
    ap₂ patterns_by (c.deref_mut.ensures.value ∙ c.self.invariant.2) (c.deref_mut-2.ensures.value ∙ c.in_ok-fresh.ensures ∙ ap₂ all_recompiled c.nodes.ensures.value c.nodes-2.ensures.value)
    ∙ patterns_stand c.self.inside.tree.nodes c.make_edits.new.tree.nodes (sym (frames_long c.self.inside.tree.nodes c.make_edits.new.tree.nodes same))

pub returns-in_err-kept-clause-bound : goal.returns-in_err-kept-clause-bound
returns-in_err-kept-clause-bound g c =
    let same = edited_frames c.self.inside.tree.nodes c.in_ok-tree.tree c.make_edits.new.tree c.in_ok-files.files.items c.make_edits.new.files.items c.args.edits.items (ap (λ (t : Tree). t.nodes) c.in_ok-tree.ensures) c.in_ok-make_edits.ensures in
    subst (λ (n : ℕ). c.kept_of.new.steps ≤ c.args.steps.now + n)
    (count_same c.self.inside.tree.nodes c.make_edits.new.tree.nodes same ∙ ap (λ (p : Page). count_by is_submittable p.tree.nodes) c.self.view_is) c.in_err-kept.ensures.bound

pub changed_keys-requires-clause-before : goal.changed_keys-requires-clause-before
changed_keys-requires-clause-before g c =
    let same = edited_frames c.self.inside.tree.nodes c.in_ok-tree.tree c.make_edits.new.tree c.in_ok-files.files.items c.make_edits.new.files.items c.args.edits.items (ap (λ (t : Tree). t.nodes) c.in_ok-tree.ensures) c.in_ok-make_edits.ensures in
    ap length (c.deref-2.ensures.value ∙ c.self.invariant.3) ∙ length-map c.self.inside.tree.nodes (sight_if (names_of c.self.inside.files.items) c.self.inside.tree.nodes)
    ∙ sym (frames_long c.self.inside.tree.nodes c.make_edits.new.tree.nodes same) ∙ sym (ap length c.nodes-3.ensures.value)

pub returns-in_err-keys-clause-bound : goal.returns-in_err-keys-clause-bound
returns-in_err-keys-clause-bound g c =
    let same = edited_frames c.self.inside.tree.nodes c.in_ok-tree.tree c.make_edits.new.tree c.in_ok-files.files.items c.make_edits.new.files.items c.args.edits.items (ap (λ (t : Tree). t.nodes) c.in_ok-tree.ensures) c.in_ok-make_edits.ensures in
    subst (λ (n : ℕ). c.kept_of.new.steps ≤ c.args.steps.now + n)
    (count_same c.self.inside.tree.nodes c.make_edits.new.tree.nodes same ∙ ap (λ (p : Page). count_by is_submittable p.tree.nodes) c.self.view_is) c.in_ok-kept.ensures.bound

pub invariant_of-self-2 : goal.invariant_of-self-2
invariant_of-self-2 g c =
    let same = edited_frames c.self.inside.tree.nodes c.in_ok-tree.tree c.make_edits.new.tree c.in_ok-files.files.items c.make_edits.new.files.items c.args.edits.items (ap (λ (t : Tree). t.nodes) c.in_ok-tree.ensures) c.in_ok-make_edits.ensures in
    let size : c.self.inside.patterns.len ≡ length c.self.inside.patterns.items = c.self.inside.patterns.ok.0 in
    let stays = c.in_ok-kept.ensures.kept ∙ c.deref_mut.ensures.value in
    let kept = take c.self.inside.patterns.len (c.kept_of.new.patterns ++ drop (length c.kept_of.new.patterns) c.self.inside.patterns.items) in
    let lent : kept ≡ c.kept_of.new.patterns = spliced c.self.inside.patterns.len c.kept_of.new.patterns c.self.inside.patterns.items size (ap length stays) in
    let fresh = spliced c.in_ok-fresh.fresh.len c.kept_of.new.fresh c.in_ok-fresh.fresh.items c.in_ok-fresh.fresh.ok.0 (ap length (c.in_ok-kept.ensures.fresh ∙ c.deref_mut-2.ensures.value)) in
    let put : c.put_patterns.new.patterns ≡ map pattern_of c.make_edits.new.tree.nodes =
    c.put_patterns.ensures
    ∙ ap₂ patterns_by (c.deref_mut-3.ensures.value ∙ lent ∙ stays ∙ c.self.invariant.2) (fresh ∙ c.in_ok-kept.ensures.fresh ∙ c.deref_mut-2.ensures.value ∙ c.in_ok-fresh.ensures ∙ ap₂ all_recompiled c.nodes.ensures.value c.nodes-2.ensures.value)
    ∙ patterns_stand c.self.inside.tree.nodes c.make_edits.new.tree.nodes (sym (frames_long c.self.inside.tree.nodes c.make_edits.new.tree.nodes same)) in
    let long : length kept ≡ length c.self.inside.patterns.items = ap length lent ∙ ap length stays in
    let all : length c.put_patterns.new.patterns ≡ length kept =
    ap length put ∙ length-map c.make_edits.new.tree.nodes pattern_of ∙ frames_long c.self.inside.tree.nodes c.make_edits.new.tree.nodes same
    ∙ sym (length-map c.self.inside.tree.nodes pattern_of) ∙ sym (ap length c.self.invariant.2) ∙ sym long in (
      frames_few c.self.inside.tree.nodes c.make_edits.new.tree.nodes _ same c.self.invariant.0,
      c.in_ok-kept.ensures.owners,
      spliced c.self.inside.patterns.len c.put_patterns.new.patterns kept (size ∙ sym long) all ∙ put,
      c.in_ok-kept.ensures.sights ∙ ap (λ files. map (sight_if (names_of files) c.make_edits.new.tree.nodes) c.make_edits.new.tree.nodes) c.deref.ensures.value,
      c.in_ok-kept.ensures.groups,
      c.in_ok-kept.ensures.owned,
      c.in_ok-kept.ensures.holders,
    )

pub returns-clause-keys : goal.returns-clause-keys
returns-clause-keys g c =
    let before = page_of c.self.inside.tree c.self.inside.files.items in
    let after = page_of c.make_edits.new.tree c.make_edits.new.files.items in
    let same = edited_frames c.self.inside.tree.nodes c.in_ok-tree.tree c.make_edits.new.tree c.in_ok-files.files.items c.make_edits.new.files.items c.args.edits.items (ap (λ (t : Tree). t.nodes) c.in_ok-tree.ensures) c.in_ok-make_edits.ensures in
    let copied : page_of c.in_ok-tree.tree c.in_ok-files.files.items ≡ c.args.self.now = rw (c.in_ok-tree.ensures, c.in_ok-files.ensures) c.self.view_is in
    let whole : after ≡ edited c.args.self.now c.args.edits.items = c.in_ok-make_edits.ensures ∙ ap (λ (p : Page). edited p c.args.edits.items) copied in
    let seen = c.in_ok-kept.ensures.sights ∙ ap (λ files. map (sight_if (names_of files) c.make_edits.new.tree.nodes) c.make_edits.new.tree.nodes) c.deref.ensures.value in
    c.in_ok-keys.ensures
    ∙ keys_found before after c.nodes-3.result.now c.deref-2.result.now c.deref-3.result.now c.len.ensures.tree c.nodes-3.ensures.tree same c.nodes-3.ensures.value
    (c.deref-2.ensures.value ∙ c.self.invariant.3) (c.deref-3.ensures.value ∙ seen)
    ∙ ap₂ changes c.self.view_is whole

pub returns-clause-bound : goal.returns-clause-bound
returns-clause-bound g c =
    let same = edited_frames c.self.inside.tree.nodes c.in_ok-tree.tree c.make_edits.new.tree c.in_ok-files.files.items c.make_edits.new.files.items c.args.edits.items (ap (λ (t : Tree). t.nodes) c.in_ok-tree.ensures) c.in_ok-make_edits.ensures in
    subst (λ (n : ℕ). c.kept_of.new.steps ≤ c.args.steps.now + n)
    (count_same c.self.inside.tree.nodes c.make_edits.new.tree.nodes same ∙ ap (λ (p : Page). count_by is_submittable p.tree.nodes) c.self.view_is) c.in_ok-kept.ensures.bound
