use Rattle.std.proofs.Common.{◌≡◌, Some, refl, ap, subst, sym}
use Rattle.std.specs.String.{string_bytes}
use Rattle.form_tree.specs.Tree.{Nodes, Tree, place_of}
use Rattle.form_tree.proofs.Writes.{keeps, names_there, wrote}
use Rattle.form_tree.proofs.tree.Tree.set_text.Goals as goal

pub invariant_of-self : goal.invariant_of-self
invariant_of-self c =
    let ns = c.self.inside.nodes.items in
    let read = c.index_mut-node.ensures.value in
    let placed : place_of c.self.inside.nodes.items c.args.key ≡ Some c.place_in-place.result = subst (λ (t : Tree). place_of t.nodes c.args.key ≡ Some c.place_in-place.result) (sym c.self.view_is) c.place_in-place.ensures in
    keeps ns c.self.invariant.0 c.args.key _ placed _ read c.self.inside.places.items c.self.invariant.1 c.self.inside.used c.self.invariant.2 _ refl refl (names_there ns c.self.invariant.0 c.args.key _ placed _ read)

pub returns : goal.returns
returns c =
    let placed : place_of c.self.inside.nodes.items c.args.key ≡ Some c.place_in-place.result = subst (λ (t : Tree). place_of t.nodes c.args.key ≡ Some c.place_in-place.result) (sym c.self.view_is) c.place_in-place.ensures in
    rw (← c.self.view_is) (ap (λ (nodes : Nodes). record { nodes = nodes; used = c.self.inside.used })
    (wrote _ c.self.invariant.0 c.args.key _ placed _ c.index_mut-node.ensures.value (λ n. record n { text = string_bytes c.args.text }) _ (rw c.from_string.ensures refl)))
