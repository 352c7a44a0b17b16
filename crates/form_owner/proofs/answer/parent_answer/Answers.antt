use Rattle.std.proofs.Common.{◌≡◌, List, arith, ◌∙◌, ap}
use Rattle.std.specs.List.{slice_get}
use Rattle.std.specs.Option.{option_copied}
use Rattle.std.proofs.lemmas.Grind.{common_steps}
use Rattle.std.proofs.lemmas.Option.{gets}
use Rattle.form_owner.specs.declared.answer.Answer.{Answer}
use Rattle.form_owner.proofs.OwnerLaws.{parent_known, parent_unplaced}
use Rattle.form_owner.proofs.answer.parent_answer.Goals as goal

pub returns-in-Some-place : goal.returns-in-Some-place
returns-in-Some-place c =
    let read : option_copied c.get.result ≡ slice_get c.args.known.now c.in-Some-place.place = grind (arith, common_steps, gets) in
    read ∙ ap (λ (known : List Answer). slice_get known c.in-Some-place.place) c.requires.known.1
    ∙ parent_known c.args.tree.now.nodes c.requires.tree c.requires.known.0 c.args.key c.in-Some.parent c.in-Some-place.place c.requires.known.2 c.in-Some.ensures c.in-Some-place.ensures.value

pub returns-in-None : goal.returns-in-None
returns-in-None c = parent_unplaced c.args.tree.now.nodes c.args.key c.in-Some.parent c.in-Some.ensures c.in-None.ensures.value
