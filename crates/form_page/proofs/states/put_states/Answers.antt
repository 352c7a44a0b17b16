use Rattle.std.proofs.Common.{sym, ◌∙◌}
use Rattle.form_page.proofs.StateLaws.{all_put, put_step}
use Rattle.form_page.proofs.states.put_states.Goals as goal

pub loop-state-preserved : goal.loop-state-preserved
loop-state-preserved c =
    put_step c.loop-state.tree c.put_state.new.tree c.loop-state.left.items c.pop.new.self.items c.in-Some.state c.len.result c.in-Some.ensures.items (c.len.ensures ∙ c.pop.new.self.ok.0) c.put_state.ensures
    ∙ c.loop-state.invariant

pub returns : goal.returns
returns c = all_put c.loop-state.tree c.loop-state.left.items (sym c.loop-state.left.ok.0 ∙ c.in_default.ensures.cases.0) ∙ c.loop-state.invariant
