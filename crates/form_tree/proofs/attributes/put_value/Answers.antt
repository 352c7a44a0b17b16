use Rattle.std.proofs.Common.{◌≡◌, Some, None, sym}
use Rattle.std.specs.List.{position}
use Rattle.form_tree.specs.Tree.{is_named}
use Rattle.form_tree.proofs.AttributeLaws.{put_there, put_new}
use Rattle.form_tree.proofs.attributes.put_value.Goals as goal

pub returns-in-Some-clause-ok : goal.returns-in-Some-clause-ok
returns-in-Some-clause-ok c =
    let found : position (is_named c.args.name.now) c.args.attrs.now.items ≡ Some c.in-Some.place = rw (← c.deref.ensures.value) (sym c.in-Some.ensures) in
    sym (put_there c.args.attrs.now.items c.args.name.now c.args.value c.requires _ _ found c.index_mut.ensures.value)

pub returns-in_ok-push-in-None-clause-ok : goal.returns-in_ok-push-in-None-clause-ok
returns-in_ok-push-in-None-clause-ok c =
    let found : position (is_named c.args.name.now) c.args.attrs.now.items ≡ None = rw (← c.deref.ensures.value) (sym c.in-None.ensures) in
    rw (c.in_ok-push-in-None.ensures.items, c.in_ok-name-in-None.ensures) (sym (put_new c.args.attrs.now.items c.args.name.now c.args.value found))
