use Rattle.std.proofs.Common.{sym}
use Rattle.std.proofs.lemmas.Bool.{ltb-true, ltb-false}
use Rattle.form_tree.proofs.Places.{indexed_found, indexed_past, place_indexed}
use Rattle.form_tree.proofs.tree.Tree.place.Goals as goal

pub returns-in-Some-clause-value : goal.returns-in-Some-clause-value
returns-in-Some-clause-value c =
    let entry = rw c.deref.ensures.value at c.in-Some.ensures.lookup in
    rw (← c.self.view_is, place_indexed c.self.inside.places.items c.self.inside.nodes.items c.args.key c.self.invariant.1)
    (sym (indexed_found c.self.inside.places.items c.args.key c.in-Some.place.now (ltb-true _ _ (sym entry.0)) entry.1))

pub returns-in-None-clause-value : goal.returns-in-None-clause-value
returns-in-None-clause-value c =
    let entry = rw c.deref.ensures.value at c.in-None.ensures.lookup in
    rw (← c.self.view_is, place_indexed c.self.inside.places.items c.self.inside.nodes.items c.args.key c.self.invariant.1)
    (sym (indexed_past c.self.inside.places.items c.args.key (ltb-false _ _ (sym entry.0))))
