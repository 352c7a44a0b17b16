use Rattle.std.proofs.Common.{◌≡◌, ℕ, List, Option, is_some, sym, ap, ◌∙◌, subst}
use Rattle.std.specs.Option.{option_copied}
use Rattle.std.specs.Result.{IfOk}
use Rattle.form_owner.specs.Owners.{moves_of}
use Rattle.form_tree.specs.Tree.{Tree, place_of}
use Rattle.form_acts.proofs.OwnerLaws.{nothing_moves, nowhere, somewhere}
use Rattle.form_acts.proofs.radio_attributes.moves_of.Goals as goal

pub returns-then-is_none : goal.returns-then-is_none
returns-then-is_none c =
    c.new.ensures.items
    ∙ nothing_moves c.args.page.now.tree.nodes c.args.key c.args.name.now c.args.value.now
    (nowhere c.args.page.now.tree.nodes c.args.key (ap is_some (ap (λ (t : Tree). place_of t.nodes c.args.key) (sym c.tree.ensures) ∙ sym c.place.ensures.value) ∙ c.if-is_none.ensures))

pub moves-requires : goal.moves-requires
moves-requires c = somewhere (place_of c.args.page.now.tree.nodes c.args.key) (ap is_some (ap (λ (t : Tree). place_of t.nodes c.args.key) (sym c.tree.ensures) ∙ sym c.place.ensures.value) ∙ c.if-is_none.ensures)

pub returns : goal.returns
returns c =
    subst (λ (value : Option (List ℕ)). IfOk c.moves.result (λ moves. moves.items ≡ moves_of c.args.page.now.tree.nodes c.args.key c.args.name.now value)) c.lent.ensures
    (subst (λ (name : List ℕ). IfOk c.moves.result (λ moves. moves.items ≡ moves_of c.args.page.now.tree.nodes c.args.key name (option_copied c.lent.result))) c.as_str.ensures c.moves.ensures)
