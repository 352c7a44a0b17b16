use Rattle.std.proofs.Common.{subst, sym}
use Rattle.form_markup.specs.Goes.{Answering}
use Rattle.form_markup.specs.Machine.{State}
use Rattle.form_markup.proofs.AnswerLaws.{answer_begun}
use Rattle.form_markup.proofs.page.read_raws.Goals as goal

pub pieces-init : goal.pieces-init
pieces-init c = (
  subst (λ (m : State). Answering c.args.around.now c.args.text.now m c.args.text.now) (sym c.new-machine.ensures) (answer_begun c.args.around.now c.args.text.now),
  c.utf8.text,
)
