use Rattle.std.proofs.Common.{◌≡◌, Some, refl, ap, subst, sym}
use Rattle.std.specs.Option.{option_map}
use Rattle.std.specs.String.{string_bytes}
use Rattle.std.proofs.lemmas.Result.{err_from_is_err_and}
use Rattle.form_tree.specs.Attributes.{set_attr}
use Rattle.form_tree.specs.Tree.{Nodes, NamesDiffer, Tree, place_of}
use Rattle.form_tree.proofs.AttributeLaws.{names_still_differ}
use Rattle.form_tree.proofs.Writes.{keeps, names_there, unwrote, wrote}
use Rattle.form_tree.proofs.tree.Tree.set_attr.Goals as goal

pub put_attr-requires : goal.put_attr-requires
put_attr-requires c =
    let placed : place_of c.self.inside.nodes.items c.args.key ≡ Some c.place_in-place.result = subst (λ (t : Tree). place_of t.nodes c.args.key ≡ Some c.place_in-place.result) (sym c.self.view_is) c.place_in-place.ensures in
    names_there c.self.inside.nodes.items c.self.invariant.0 c.args.key _ placed _ c.index_mut-node.ensures.value

pub invariant_of-self : goal.invariant_of-self
invariant_of-self c =
    let ns = c.self.inside.nodes.items in
    let read = c.index_mut-node.ensures.value in
    let placed : place_of c.self.inside.nodes.items c.args.key ≡ Some c.place_in-place.result = subst (λ (t : Tree). place_of t.nodes c.args.key ≡ Some c.place_in-place.result) (sym c.self.view_is) c.place_in-place.ensures in
    let names = names_there ns c.self.invariant.0 c.args.key _ placed _ read in
    keeps ns c.self.invariant.0 c.args.key _ placed _ read c.self.inside.places.items c.self.invariant.1 c.self.inside.used c.self.invariant.2 _ refl refl (rw c.in_err-put_attr.ensures.err names)

pub invariant_of-self-2 : goal.invariant_of-self-2
invariant_of-self-2 c =
    let ns = c.self.inside.nodes.items in
    let read = c.index_mut-node.ensures.value in
    let placed : place_of c.self.inside.nodes.items c.args.key ≡ Some c.place_in-place.result = subst (λ (t : Tree). place_of t.nodes c.args.key ≡ Some c.place_in-place.result) (sym c.self.view_is) c.place_in-place.ensures in
    let names = names_there ns c.self.invariant.0 c.args.key _ placed _ read in
    keeps ns c.self.invariant.0 c.args.key _ placed _ read c.self.inside.places.items c.self.invariant.1 c.self.inside.used c.self.invariant.2 _ refl refl (rw c.in_ok-put_attr.ensures.ok (names_still_differ c.args.name.now (option_map string_bytes c.args.value) _ names))

pub returns-clause-ok : goal.returns-clause-ok
returns-clause-ok c =
    let placed : place_of c.self.inside.nodes.items c.args.key ≡ Some c.place_in-place.result = subst (λ (t : Tree). place_of t.nodes c.args.key ≡ Some c.place_in-place.result) (sym c.self.view_is) c.place_in-place.ensures in
    rw (← c.self.view_is) (ap (λ (nodes : Nodes). record { nodes = nodes; used = c.self.inside.used })
    (wrote _ c.self.invariant.0 c.args.key _ placed _ c.index_mut-node.ensures.value (set_attr c.args.name.now (option_map string_bytes c.args.value)) _ (rw c.in_ok-put_attr.ensures.ok refl)))

pub returns-in_err-put_attr-clause-err : goal.returns-in_err-put_attr-clause-err
returns-in_err-put_attr-clause-err c =
    let placed : place_of c.self.inside.nodes.items c.args.key ≡ Some c.place_in-place.result = subst (λ (t : Tree). place_of t.nodes c.args.key ≡ Some c.place_in-place.result) (sym c.self.view_is) c.place_in-place.ensures in
    let failed = err_from_is_err_and c.from_residual.result c.from_residual.ensures.1 in
    rw (failed.1, c.in_err-put_attr.ensures.err, ← c.self.view_is) (ap (λ (nodes : Nodes). record { nodes = nodes; used = c.self.inside.used })
    (unwrote _ c.self.invariant.0 c.args.key _ placed _ c.index_mut-node.ensures.value))
