use Rattle.std.proofs.Common.{ap, ◌∙◌}
use Rattle.std.proofs.lemmas.Result.{on_ok_weaker}
use Rattle.form_submit.proofs.GatherLaws.{printed_rest-lines, printed_rest-end, printed_rest-later, printed_rest-before}
use Rattle.form_submit.specs.Sending.{Gathered}
use Rattle.form_submit.proofs.gatherer.Gatherer.finish.Goals as goal

pub returns-in_err-make_room-clause-part : goal.returns-in_err-make_room-clause-part
returns-in_err-make_room-clause-part g c = printed_rest-before _ _ _ c.in_err-make_room.ensures.part

pub returns-clause-whole : goal.returns-clause-whole
returns-clause-whole g c =
    on_ok_weaker c.hand_on.result (λ whole. printed_rest-end _ _ _ _ _ _ c.in_ok-make_room.ensures.gathers
    (printed_rest-lines _ _ _ _ (ap (λ (s : Gathered). s.lines) c.self.view_is ∙ c.print_piece.ensures.lines) c.push.ensures) whole) c.hand_on.ensures.whole

pub returns-clause-part : goal.returns-clause-part
returns-clause-part g c =
    printed_rest-later _ _ _ _ _ _ c.in_ok-make_room.ensures.gathers
    (printed_rest-lines _ _ _ _ (ap (λ (s : Gathered). s.lines) c.self.view_is ∙ c.print_piece.ensures.lines) c.push.ensures) c.hand_on.ensures.part
