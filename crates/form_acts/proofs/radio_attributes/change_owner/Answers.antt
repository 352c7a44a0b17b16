use Rattle.std.proofs.Common.{sym, ap, ◌∙◌}
use Rattle.form_owner.specs.Owners.{moves_between}
use Rattle.form_page.specs.Settling.{moved_inputs, with_radios}
use Rattle.form_drafts.specs.Drafts.{Draft}
use Rattle.form_acts.proofs.radio_attributes.change_owner.Goals as goal

pub take_moved_radios-requires : goal.take_moved_radios-requires
take_moved_radios-requires c = c.deref.ensures.value ∙ c.in_ok-moves.ensures ∙ sym (ap (λ (d : Draft). moves_between d.page.tree.nodes d.nodes) c.in_ok-draft.ensures.draft)

pub returns : goal.returns
returns c = c.in_ok-take_moved_radios.ensures ∙ ap (λ (d : Draft). let x : Draft = record d { nodes = with_radios d.nodes (moved_inputs d.page.tree.nodes d.nodes) } in x) c.in_ok-draft.ensures.draft
