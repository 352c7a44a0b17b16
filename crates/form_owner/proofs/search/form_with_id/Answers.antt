use Rattle.std.proofs.Common.{sym, ◌∙◌, ap}
use Rattle.std.specs.Option.{option_and_then}
use Rattle.form_tree.specs.Ownership.{has_id, key_if_form}
use Rattle.form_tree.proofs.Laws.{find_step, key_there}
use Rattle.form_owner.proofs.search.form_with_id.Goals as goal
use Rattle.form_owner.proofs.search.form_with_id.Goals.{in-Some+else-has_id, in_default}

pub returns-then-has_id : goal.returns-then-has_id
returns-then-has_id c =
    let step = find_step c.args.tree.now.nodes c.len-place-end.ensures.tree (has_id c.args.text.now) c.loop-place.place c.in-Some.key c.in-Some.ensures in
    let met = rw (← c.if-has_id.ensures) at step in
    c.if_form.ensures ∙ ap (option_and_then key_if_form) (sym met ∙ c.loop-place.invariant)

pub loop-place-preserved : goal.loop-place-preserved
loop-place-preserved c = elim c.match-key_at.branch [
  | in-Some+else-has_id w ↦
      let step = find_step c.args.tree.now.nodes c.len-place-end.ensures.tree (has_id c.args.text.now) c.loop-place.place w.in-Some.key w.in-Some.ensures in
      let passed = rw (← w.if-has_id.ensures) at step in
      sym passed ∙ c.loop-place.invariant
  | in_default w ↦ absurd (key_there c.args.tree.now.nodes c.loop-place.place (rw c.len-place-end.ensures.value at c.loop-place-test.true) w.in_default.ensures)
]
