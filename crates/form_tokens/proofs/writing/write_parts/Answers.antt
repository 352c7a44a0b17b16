use Rattle.std.proofs.Common.{ℕ, List, ◌++◌, string_bytes, sym, ap, ◌∙◌}
use Rattle.form_tokens.specs.Characters.{joined}
use Rattle.form_tokens.proofs.Parts.{parts_halt, parts_more, parts_read, written_more}
use Rattle.form_tokens.proofs.writing.write_parts.Goals as goal

pub parts-preserved : goal.parts-preserved
parts-preserved c =
    let parts : List (List ℕ) = c.parts.invariant.0.0 in
    let more : List (List ℕ) = c.in-Ok.ensures.parts.0 in (
      (
        parts ++ more,
        parts_more c.args.context parts more c.args.text.now c.parts.rest.now c.in-Ok.after.now c.parts.invariant.0.1 c.in-Ok.ensures.parts.1,
        c.in-Ok.ensures.parts.2 ∙ (ap (λ (xs : List ℕ). xs ++ joined more) c.parts.invariant.0.2 ∙ written_more (string_bytes c.args.out.now) parts more),
        c.in-Ok.ensures.clear,
      ),
      c.in-Ok.ensures.utf8,
    )

pub returns-in-Err-clause-halt : goal.returns-in-Err-clause-halt
returns-in-Err-clause-halt c = parts_halt c.args.context c.parts.invariant.0.0 c.args.text.now c.parts.rest.now c.in-Err.stop c.parts.invariant.0.1 (sym c.parts-test.ensures) c.in-Err.ensures.halt

pub returns-clause-value : goal.returns-clause-value
returns-clause-value c =
    let made = parts_read c.args.context c.parts.invariant.0.0 c.args.text.now c.parts.rest.now c.parts.invariant.0.1 (sym c.parts-test.ensures) in
    (made.0, (made.1, sym c.parts-test.ensures), c.parts.invariant.0.2 ∙ ap (λ (xs : List ℕ). string_bytes c.args.out.now ++ xs) (sym made.2))
