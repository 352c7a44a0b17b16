use Rattle.std.proofs.Common.{◌≡◌, ◌∙◌, length, refl, subst, sym}
use Rattle.std.proofs.lemmas.Result.{IfErr-weaker, IfOk-weaker}
use Rattle.form_tokens.specs.Readers.{Fails}
use Rattle.form_markup.specs.Machine.{State, state_of, turn}
use Rattle.form_markup.specs.Turns.{tag_turn}
use Rattle.form_markup.proofs.Goes.{chunks_goes, chunks_halts, tag_goes, turn_goes, turn_halts}
use Rattle.form_markup.proofs.page.advance.Goals as goal

pub returns-then-goes_on-clause-goes : goal.returns-then-goes_on-clause-goes
returns-then-goes_on-clause-goes c =
    let m : State = state_of c.args.machine.now in
    IfOk-weaker c.add_text.result _ _ (λ rest e. chunks_goes c.args.around.now c.context-context.result e.0 m (state_of c.add_text.new.self) c.args.text.now rest.now c.context-context.ensures (sym c.if-goes_on.ensures) e.1 e.2) c.add_text.ensures.value

pub returns-then-goes_on-clause-halts : goal.returns-then-goes_on-clause-halts
returns-then-goes_on-clause-halts c =
    let m : State = state_of c.args.machine.now in
    IfErr-weaker c.add_text.result _ _ (λ halt e. chunks_halts c.args.around.now c.context-context.result m c.args.text.now halt c.context-context.ensures e) c.add_text.ensures.halt

pub returns-in-Ok-clause-goes : goal.returns-in-Ok-clause-goes
returns-in-Ok-clause-goes c =
    let m : State = state_of c.args.machine.now in
    let same : tag_turn c.args.around.now m c.args.text.now ≡ turn c.args.around.now m c.args.text.now = tag_goes c.args.around.now c.context-context.result m c.args.text.now c.context-context.ensures c.requires (sym c.if-goes_on.ensures) in
    turn_goes c.args.around.now m (state_of c.take_tag.new.machine) c.args.text.now c.in-Ok.rest.now (sym same ∙ c.in-Ok.ensures.turn)

pub returns-in-Err-clause-halts : goal.returns-in-Err-clause-halts
returns-in-Err-clause-halts c =
    let m : State = state_of c.args.machine.now in
    let same : tag_turn c.args.around.now m c.args.text.now ≡ turn c.args.around.now m c.args.text.now = tag_goes c.args.around.now c.context-context.result m c.args.text.now c.context-context.ensures c.requires (sym c.if-goes_on.ensures) in
    turn_halts c.args.around.now m c.args.text.now (record { stop = c.in-Err.stop; left = length c.args.text.now }) c.requires refl (subst (Fails c.in-Err.stop) same c.in-Err.ensures.turn)
