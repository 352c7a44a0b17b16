use Rattle.std.proofs.Common.{◌∙◌, refl, sym, ap}
use Rattle.form_tree.specs.Tree.{Nodes}
use Rattle.form_page.specs.States.{with_state_at}
use Rattle.form_page.proofs.StateLaws.{key_placed, past_the_end, state_written, without_state}
use Rattle.form_page.proofs.states.put_state.Goals as goal

pub returns-in_default : goal.returns-in_default
returns-in_default c = rw (c.in_default.is, without_state c.args.tree.now.nodes c.args.place) refl

pub set_state-requires : goal.set_state-requires
set_state-requires c = key_placed c.args.tree.now.nodes c.len.ensures.tree c.args.place c.in-Some-key_at.key c.in-Some-key_at.ensures

pub returns-in-Some-key_at : goal.returns-in-Some-key_at
returns-in-Some-key_at c =
    c.set_state.ensures
    ∙ ap (λ (ns : Nodes). record c.args.tree.now { nodes = ns })
    (state_written c.args.tree.now.nodes c.len.ensures.tree c.args.place c.in-Some-key_at.key c.in-Some.state c.in-Some-key_at.ensures
    ∙ ap (with_state_at c.args.tree.now.nodes c.args.place) (sym c.in-Some.is))

pub returns-in_default-key_at : goal.returns-in_default-key_at
returns-in_default-key_at c = ap (λ (ns : Nodes). record c.args.tree.now { nodes = ns }) (sym (past_the_end c.args.tree.now.nodes c.args.place c.args.state c.in_default-key_at.ensures))
