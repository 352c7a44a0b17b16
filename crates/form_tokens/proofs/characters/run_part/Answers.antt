use Rattle.std.proofs.Common.{◌≡◌, ℕ, List, drop, false, subst, true}
use Rattle.form_tokens.specs.Ahead.{ends_run}
use Rattle.form_tokens.proofs.Parts.{no_chunk}
use Rattle.form_tokens.proofs.characters.run_part.Goals as goal

pub returns-then-count-eq0-clause-halt : goal.returns-then-count-eq0-clause-halt
returns-then-count-eq0-clause-halt c =
    let ends : ends_run false c.args.context c.as_bytes.result.now ≡ true = subst (λ k. ends_run false c.args.context (drop k c.as_bytes.result.now) ≡ true) c.if-count-eq0.true c.shown_run-count.ensures.ends in
    no_chunk c.args.context c.args.text.now (subst (λ (text : List ℕ). ends_run false c.args.context text ≡ true) c.as_bytes.ensures.value ends) c.requires.other
