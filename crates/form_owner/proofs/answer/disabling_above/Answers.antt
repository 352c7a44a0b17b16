use Rattle.std.proofs.Common.{◌≡◌, Some, arith, sym, ◌∙◌, ap}
use Rattle.std.specs.Option.{option_copied}
use Rattle.form_tree.proofs.Laws.{disabling_bounded}
use Rattle.form_owner.proofs.OwnerLaws.{disabling_known, disabling_unknown, known_above, none_before, one_before}
use Rattle.form_owner.proofs.answer.disabling_above.Goals as goal

pub overflow_add-result : goal.overflow_add-result
overflow_add-result c =
    let known : Some c.in-Some.up.now ≡ known_above c.args.tree.now.nodes c.args.key = ap option_copied (sym c.in-Some.is) ∙ c.requires.up in
    let law = disabling_known c.args.tree.now.nodes c.requires.tree c.args.key c.in-Some.up.now known in
    let count = rw (← c.if-disables_through.ensures) at law in
    let bound = disabling_bounded c.args.tree.now.nodes c.args.key in
    let few = c.requires.few in
    omega (arith, count, bound, few)

pub returns-then-disables_through : goal.returns-then-disables_through
returns-then-disables_through c =
    let known : Some c.in-Some.up.now ≡ known_above c.args.tree.now.nodes c.args.key = ap option_copied (sym c.in-Some.is) ∙ c.requires.up in
    let law = disabling_known c.args.tree.now.nodes c.requires.tree c.args.key c.in-Some.up.now known in
    let count = rw (← c.if-disables_through.ensures) at law in
    one_before c.in-Some.up.now.disabling ∙ sym count

pub returns-else-disables_through : goal.returns-else-disables_through
returns-else-disables_through c =
    let known : Some c.in-Some.up.now ≡ known_above c.args.tree.now.nodes c.args.key = ap option_copied (sym c.in-Some.is) ∙ c.requires.up in
    let law = disabling_known c.args.tree.now.nodes c.requires.tree c.args.key c.in-Some.up.now known in
    let count = rw (← c.if-disables_through.ensures) at law in
    none_before c.in-Some.up.now.disabling ∙ sym count

pub returns-in-None : goal.returns-in-None
returns-in-None c = sym (disabling_unknown c.args.tree.now.nodes c.requires.tree c.args.key (ap option_copied (sym c.in-None.is) ∙ c.requires.up))
