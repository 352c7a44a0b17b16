use Rattle.std.proofs.Common.{◌≡◌, Some, sym, ap, ◌∙◌, length, ◌<◌}
use Rattle.std.specs.List.{slice_get}
use Rattle.std.proofs.lemmas.Option.{slice_get-get_or}
use Rattle.form_tree.specs.declared.node.Node.{Node}
use Rattle.form_tree.proofs.Places.{placed_below}
use Rattle.form_select.proofs.DatalistLaws.{known_inside, known_long, known_outside, parent_is_before, parent_is_there, top_free}
use Rattle.form_select.proofs.datalists.is_in_datalist.Goals as goal

pub returns-in_default : goal.returns-in_default
returns-in_default c = top_free c.args.tree.now.nodes c.requires.tree c.requires.known.0 c.args.node.now c.requires.known.2 c.in_default.is

pub bounds-known-place : goal.bounds-known-place
bounds-known-place c =
    known_long c.args.tree.now.nodes c.requires.tree c.requires.known.0 c.args.node.now c.requires.known.2 c.args.known.now c.requires.known.1 c.in-Some-place.place
    (parent_is_before c.args.tree.now.nodes c.requires.tree c.requires.known.0 c.args.node.now c.requires.known.2 c.in-Some.parent c.in-Some-place.place c.in-Some.is c.in-Some-place.ensures.value)

pub returns-then-known-place : goal.returns-then-known-place
returns-then-known-place c =
    known_inside c.args.tree.now.nodes c.requires.tree c.requires.known.0 c.args.node.now c.requires.known.2 c.args.known.now c.requires.known.1
    c.in-Some.parent c.in-Some-place.place c.in-Some.is c.in-Some-place.ensures.value c.if-known-place.true

pub returns-else-known-place : goal.returns-else-known-place
returns-else-known-place c =
    let ns = c.args.tree.now.nodes in
    let j = c.in-Some-place.place in
    let m = c.index-nodes-place.result in
    let below : j < length ns = placed_below ns c.in-Some.parent j (sym c.in-Some-place.ensures.value) in
    let read : slice_get ns j ≡ Some m = slice_get-get_or ns j m below ∙ ap (λ (x : Node). Some x) (sym (rw c.nodes.ensures.value at c.index-nodes-place.is)) in
    c.is_datalist.ensures ∙ known_outside ns c.requires.tree c.requires.known.0 c.args.node.now c.requires.known.2 c.args.known.now c.requires.known.1
    c.in-Some.parent j m c.in-Some.is c.in-Some-place.ensures.value read c.if-known-place.false

pub returns-in-None : goal.returns-in-None
returns-in-None c = absurd (parent_is_there c.args.tree.now.nodes c.requires.tree c.requires.known.0 c.args.node.now c.requires.known.2 c.in-Some.parent c.in-Some.is c.in-None.ensures.value)
