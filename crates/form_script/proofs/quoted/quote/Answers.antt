use Rattle.std.proofs.Common.{◌≡◌, ◌++◌, List, ℕ, ap, subst, string_bytes, sym, ◌∙◌}
use Rattle.form_script.specs.Quoted.{IsQuoted, quoted}
use Rattle.form_script.proofs.QuotedLaws.{quoted_back}
use Rattle.form_script.proofs.quoted.quote.Goals as goal

pub returns-clause-read_back : goal.returns-clause-read_back
returns-clause-read_back c =
    let text : List ℕ = c.args.text.now in
    let is : string_bytes c.push_quoted.new.out ≡ quoted text = c.in_ok-push_quoted.ensures ∙ ap (λ x. x ++ quoted text) c.new-literal.ensures.bytes in
    subst (λ literal. IsQuoted literal text) (sym is) (quoted_back text)
