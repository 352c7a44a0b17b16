use Rattle.std.proofs.Common.{◌&&◌, sym, ◌∙◌, ap}
use Rattle.std.specs.Option.{option_map}
use Rattle.form_tree.specs.declared.node.Node.{Node}
use Rattle.form_tree.specs.Elements.{is_child_of, is_legend}
use Rattle.form_tree.proofs.Laws.{find_step, key_there}
use Rattle.form_owner.proofs.OwnerLaws.{own_key}
use Rattle.form_owner.proofs.search.first_legend.Goals as goal
use Rattle.form_owner.proofs.search.first_legend.Goals.{in-Some+else-is_legend_in, in_default}

pub returns-then-is_legend_in : goal.returns-then-is_legend_in
returns-then-is_legend_in c =
    let step = find_step c.args.tree.now.nodes c.len-place-end.ensures.tree (λ n. is_legend n && is_child_of c.args.fieldset n) c.loop-place.place c.in-Some.key c.in-Some.ensures in
    let met = rw (← c.if-is_legend_in.ensures) at step in
    own_key c.args.tree.now.nodes c.len-place-end.ensures.tree c.loop-place.place c.in-Some.key c.in-Some.ensures ∙ ap (option_map (λ (n : Node). n.key)) (sym met ∙ c.loop-place.invariant)

pub loop-place-preserved : goal.loop-place-preserved
loop-place-preserved c = elim c.match-key_at.branch [
  | in-Some+else-is_legend_in w ↦
      let step = find_step c.args.tree.now.nodes c.len-place-end.ensures.tree (λ n. is_legend n && is_child_of c.args.fieldset n) c.loop-place.place w.in-Some.key w.in-Some.ensures in
      let passed = rw (← w.if-is_legend_in.ensures) at step in
      sym passed ∙ c.loop-place.invariant
  | in_default w ↦ absurd (key_there c.args.tree.now.nodes c.loop-place.place (rw c.len-place-end.ensures.value at c.loop-place-test.true) w.in_default.ensures)
]
