use Rattle.std.proofs.Common.{arith, sym, ◌∙◌, ◌-◌}
use Rattle.std.proofs.lemmas.Bool.Decides.{nat_tests}
use Rattle.form_worked_requests.proofs.FileLaws.{IsThere-at}
use Rattle.form_worked_requests.proofs.files.is_there.Goals as goal

pub returns-in-Some : goal.returns-in-Some
returns-in-Some g c = λ is.
    IsThere-at _ _ _ (c.args.number - 1) _ (grind (arith, nat_tests, c.if-number-eq0.false)) (grind (arith, nat_tests, c.in-Some.ensures.lookup.0)) c.in-Some.ensures.lookup.1 (sym c.is_some.ensures ∙ is)
