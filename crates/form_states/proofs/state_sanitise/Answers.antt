use Rattle.std.proofs.Common.{◌≡◌, string_bytes, subst, sym}
use Rattle.form_states.specs.States.{IsSanitised, sanitised}
use Rattle.form_states.proofs.Exactness.{sanitised_is}
use Rattle.std.proofs.lemmas.Result.{IfOk-weaker}
use Rattle.form_states.proofs.state_sanitise.Goals as goal

pub returns-clause-rule : goal.returns-clause-rule
returns-clause-rule g c =
    let kind = g.S.Row.KIND in
    let l = c.args.limits.now in
    let t = c.args.text.now in
    IfOk-weaker c.sanitise.result (λ s. string_bytes s ≡ sanitised kind l t) (λ s. IsSanitised kind l t (string_bytes s))
    (λ s h. subst (IsSanitised kind l t) (sym h) (sanitised_is kind l t c.requires c.decimals.ensures)) c.sanitise.ensures
