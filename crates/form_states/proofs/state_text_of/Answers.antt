use Rattle.std.proofs.Common.{◌≡◌, ◌↔◌, ℕ, List, IfSome, IsSome, option_map, string_bytes}
use Rattle.form_states.specs.States.{HasNumber, IsTextFor, text_for}
use Rattle.std.proofs.lemmas.Result.{IfOk-weaker}
use Rattle.form_states.proofs.Exactness.{some_exact, text_exact}
use Rattle.form_states.proofs.state_text_of.Goals as goal

pub returns-clause-some : goal.returns-clause-some
returns-clause-some g c =
    let kind = g.S.Row.KIND in
    let n = c.args.n in
    IfOk-weaker c.text_of.result (λ o. option_map string_bytes o ≡ text_for kind n) (λ o. IsSome o ↔ ((text : List ℕ) × HasNumber kind text n))
    (λ o h. some_exact kind n string_bytes o h) c.text_of.ensures

pub returns-clause-text : goal.returns-clause-text
returns-clause-text g c =
    let kind = g.S.Row.KIND in
    let n = c.args.n in
    IfOk-weaker c.text_of.result (λ o. option_map string_bytes o ≡ text_for kind n) (λ o. IfSome o (λ s. IsTextFor kind (string_bytes s) n))
    (λ o h. text_exact kind n string_bytes o h) c.text_of.ensures
