use Rattle.std.proofs.Common.{◌≡◌, Some, refl, ap, subst, sym}
use Rattle.form_tree.specs.Tree.{Nodes, Tree, place_of}
use Rattle.form_tree.proofs.Writes.{attrs_there, keeps, wrote}
use Rattle.form_tree.proofs.tree.Tree.swap_attrs.Goals as goal

pub invariant_of-self : goal.invariant_of-self
invariant_of-self c =
    let ns = c.self.inside.nodes.items in
    let read = c.index_mut-node.ensures.value in
    let placed : place_of c.self.inside.nodes.items c.args.key ≡ Some c.place_in-place.result = subst (λ (t : Tree). place_of t.nodes c.args.key ≡ Some c.place_in-place.result) (sym c.self.view_is) c.place_in-place.ensures in
    keeps ns c.self.invariant.0 c.args.key _ placed _ read c.self.inside.places.items c.self.invariant.1 c.self.inside.used c.self.invariant.2 _ refl refl (rw c.replace.ensures.after c.requires.names)

pub returns-clause-new : goal.returns-clause-new
returns-clause-new c =
    let placed : place_of c.self.inside.nodes.items c.args.key ≡ Some c.place_in-place.result = subst (λ (t : Tree). place_of t.nodes c.args.key ≡ Some c.place_in-place.result) (sym c.self.view_is) c.place_in-place.ensures in
    rw (← c.self.view_is) (ap (λ (nodes : Nodes). record { nodes = nodes; used = c.self.inside.used })
    (wrote _ c.self.invariant.0 c.args.key _ placed _ c.index_mut-node.ensures.value (λ n. record n { attrs = c.args.attrs }) _ (rw c.replace.ensures.after refl)))

pub returns-clause-old : goal.returns-clause-old
returns-clause-old c =
    let placed : place_of c.self.inside.nodes.items c.args.key ≡ Some c.place_in-place.result = subst (λ (t : Tree). place_of t.nodes c.args.key ≡ Some c.place_in-place.result) (sym c.self.view_is) c.place_in-place.ensures in
    rw (← c.self.view_is, c.replace.ensures.value) (attrs_there _ c.self.invariant.0 c.args.key _ placed _ c.index_mut-node.ensures.value)
