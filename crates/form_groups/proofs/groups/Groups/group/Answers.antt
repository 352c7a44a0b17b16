use Rattle.std.proofs.Common.{◌≡◌, Some, None, position, sym, ap, ◌∙◌, arith}
use Rattle.std.specs.List.{slice_get}
use Rattle.std.specs.Option.{option_copied}
use Rattle.std.proofs.lemmas.Grind.{common_steps}
use Rattle.std.proofs.lemmas.Option.{gets}
use Rattle.form_groups.specs.Groups.{is_named, members_or_none}
use Rattle.form_groups.proofs.Entries.{absent, placed}
use Rattle.form_groups.proofs.groups.Groups.group.Goals as goal

pub returns-in-Some : goal.returns-in-Some
returns-in-Some c =
    let found : position (is_named c.args.owner c.args.name.now) c.self.inside.groups.items ≡ Some c.in-Some.place = rw (← c.deref.ensures.value) (sym c.in-Some.ensures) in
    let read : option_copied c.get.result ≡ slice_get c.self.inside.groups.items c.in-Some.place = grind (arith, common_steps, gets, c.deref-in-Some.ensures.value) in
    rw (← c.self.view_is) (placed c.self.inside.groups.items _ _ _ c.self.invariant found ∙ ap members_or_none (sym read))

pub returns-in-None : goal.returns-in-None
returns-in-None c =
    let none : position (is_named c.args.owner c.args.name.now) c.self.inside.groups.items ≡ None = rw (← c.deref.ensures.value) (sym c.in-None.ensures) in
    rw (← c.self.view_is) (absent c.self.inside.groups.items _ _ none)
