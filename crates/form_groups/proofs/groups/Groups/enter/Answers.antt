use Rattle.std.proofs.Common.{◌≡◌, Some, None, position, sym}
use Rattle.std.proofs.lemmas.Result.{on_ok_weaker}
use Rattle.form_groups.specs.Groups.{entered, is_named}
use Rattle.form_groups.proofs.Entries.{came, changed, kept_apart}
use Rattle.form_groups.proofs.groups.Groups.enter.Goals as goal

pub invariant_of-self : goal.invariant_of-self
invariant_of-self c =
    let found : position (is_named c.args.owner c.args.name.now) c.self.inside.groups.items ≡ Some c.in-Some.place = rw (← c.deref.ensures.value) (sym c.in-Some.ensures) in
    kept_apart c.self.inside.groups.items _ _ _ _ _ c.self.invariant found c.index_mut-group.ensures.value c.enter.ensures.owner c.enter.ensures.name

pub invariant_of-self-in-None : goal.invariant_of-self-in-None
invariant_of-self-in-None c =
    let none : position (is_named c.args.owner c.args.name.now) c.self.inside.groups.items ≡ None = rw (← c.deref.ensures.value) (sym c.in-None.ensures) in
    rw c.in_ok-push-in-None.ensures.items (came c.self.inside.groups.items _ _ _ _ c.in_ok-group-in-None.ensures c.self.invariant none).0

pub returns-in-Some-clause-ok : goal.returns-in-Some-clause-ok
returns-in-Some-clause-ok c =
    let found : position (is_named c.args.owner c.args.name.now) c.self.inside.groups.items ≡ Some c.in-Some.place = rw (← c.deref.ensures.value) (sym c.in-Some.ensures) in
    rw (← c.self.view_is) (on_ok_weaker c.enter.result
    (λ h. changed c.self.inside.groups.items _ _ _ _ _ (entered (record { key = c.args.key; required = c.args.required; checked = c.args.checked })) c.self.invariant found c.index_mut-group.ensures.value h)
    c.enter.ensures.ok)

pub returns-in_ok-push-in-None-clause-ok : goal.returns-in_ok-push-in-None-clause-ok
returns-in_ok-push-in-None-clause-ok c =
    let none : position (is_named c.args.owner c.args.name.now) c.self.inside.groups.items ≡ None = rw (← c.deref.ensures.value) (sym c.in-None.ensures) in
    rw (c.in_ok-push-in-None.ensures.items, ← c.self.view_is) (came c.self.inside.groups.items _ _ _ _ c.in_ok-group-in-None.ensures c.self.invariant none).1
