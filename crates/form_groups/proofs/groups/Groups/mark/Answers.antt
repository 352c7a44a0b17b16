use Rattle.std.proofs.Common.{◌≡◌, Some, None, position, refl, sym}
use Rattle.form_groups.specs.Groups.{is_named, marked}
use Rattle.form_groups.proofs.Entries.{changed, made_apart, unchanged}
use Rattle.form_groups.proofs.groups.Groups.mark.Goals as goal

pub invariant_of-self : goal.invariant_of-self
invariant_of-self c =
    let found : position (is_named c.args.owner c.args.name.now) c.self.inside.groups.items ≡ Some c.in-Some.place = rw (← c.deref.ensures.value) (sym c.in-Some.ensures) in
    made_apart c.self.inside.groups.items _ _ _ _ _ (marked c.args.key c.args.required c.args.checked) c.self.invariant found c.index_mut-group.ensures.value c.mark.ensures

pub returns-in-Some : goal.returns-in-Some
returns-in-Some c =
    let found : position (is_named c.args.owner c.args.name.now) c.self.inside.groups.items ≡ Some c.in-Some.place = rw (← c.deref.ensures.value) (sym c.in-Some.ensures) in
    rw (← c.self.view_is)
    (changed c.self.inside.groups.items _ _ _ _ _ (marked c.args.key c.args.required c.args.checked) c.self.invariant found c.index_mut-group.ensures.value c.mark.ensures)

pub returns-in_default : goal.returns-in_default
returns-in_default c =
    let none : position (is_named c.args.owner c.args.name.now) c.self.inside.groups.items ≡ None = rw (← c.deref.ensures.value) (sym c.in_default.ensures) in
    rw (← c.self.view_is) (unchanged c.self.inside.groups.items _ _ (marked c.args.key c.args.required c.args.checked) none refl)
