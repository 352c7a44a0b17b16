use Rattle.std.proofs.Common.{◌≡◌, Some, None, not, position, refl, sym}
use Rattle.form_groups.specs.Groups.{has_no_member, is_named, without}
use Rattle.form_groups.proofs.Entries.{changed, empty_gone, filter_apart, made_apart, unchanged}
use Rattle.form_groups.proofs.groups.Groups.leave.Goals as goal

pub invariant_of-self : goal.invariant_of-self
invariant_of-self c =
    let found : position (is_named c.args.owner c.args.name.now) c.self.inside.groups.items ≡ Some c.in-Some.place = rw (← c.deref.ensures.value) (sym c.in-Some.ensures) in
    rw c.drop_empty.ensures (filter_apart (λ g. not (has_no_member g)) _ (made_apart c.self.inside.groups.items _ _ _ _ _ (without c.args.key) c.self.invariant found c.index_mut-group.ensures.value c.leave.ensures))

pub returns-in-Some : goal.returns-in-Some
returns-in-Some c =
    let found : position (is_named c.args.owner c.args.name.now) c.self.inside.groups.items ≡ Some c.in-Some.place = rw (← c.deref.ensures.value) (sym c.in-Some.ensures) in
    rw (c.drop_empty.ensures, empty_gone, ← c.self.view_is)
    (changed c.self.inside.groups.items _ _ _ _ _ (without c.args.key) c.self.invariant found c.index_mut-group.ensures.value c.leave.ensures)

pub returns-in_default : goal.returns-in_default
returns-in_default c =
    let none : position (is_named c.args.owner c.args.name.now) c.self.inside.groups.items ≡ None = rw (← c.deref.ensures.value) (sym c.in_default.ensures) in
    rw (← c.self.view_is) (unchanged c.self.inside.groups.items _ _ (without c.args.key) none refl)
