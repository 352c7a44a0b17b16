use Rattle.std.proofs.Common.{◌≡◌, ◌<◌, ℕ, List, ap, arith, drop, inl, subst, ◌∙◌}
use Rattle.form_tokens.specs.Ahead.{IsClear}
use Rattle.form_tokens.specs.Characters.{shown_len}
use Rattle.form_tokens.proofs.Boundaries.{shown_boundary}
use Rattle.form_tokens.proofs.Parts.{ampersand_some, passed_all}
use Rattle.form_tokens.proofs.characters.ampersand_part.Goals as goal

pub split_at-requires : goal.split_at-requires
split_at-requires c = shown_boundary c.args.context c.args.text.now c.shown_run-count.result.0 (passed_all c.args.context c.as_bytes.result.now c.shown_run-count.result.0 c.shown_run-count.ensures.value c.shown_run-count.ensures.ends ∙ ap (shown_len c.args.context) c.as_bytes.ensures.value)

pub returns-clause-part : goal.returns-clause-part
returns-clause-part c =
    let count : c.shown_run-count.result.0 ≡ shown_len c.args.context c.args.text.now = passed_all c.args.context c.as_bytes.result.now c.shown_run-count.result.0 c.shown_run-count.ensures.value c.shown_run-count.ensures.ends ∙ ap (shown_len c.args.context) c.as_bytes.ensures.value in
    let some : 0 < shown_len c.args.context c.args.text.now = ampersand_some c.args.context c.args.text.now c.requires.first c.requires.none in
    inl (c.shown_run-count.result.0, omega (arith, count, some), omega (arith, count), c.split_at.ensures.front, c.split_at.ensures.back)

pub returns-clause-clear : goal.returns-clause-clear
returns-clause-clear c =
    rw c.split_at.ensures.back (subst (λ (text : List ℕ). IsClear c.args.context c.shown_run-count.result.1 (drop c.shown_run-count.result.0 text)) c.as_bytes.ensures.value c.shown_run-count.ensures.clear)
