use Rattle.std.proofs.Common.{ℕ, List, ◌++◌, Ok, sym, ap, ◌∙◌}
use Rattle.form_tokens.specs.Characters.{joined}
use Rattle.form_tokens.proofs.Chunks.{decoded_halts, decoded_is}
use Rattle.form_tokens.proofs.writing.decode.Goals as goal

pub returns-in-Ok : goal.returns-in-Ok
returns-in-Ok c =
    decoded_is c.in-Ok.ensures.value.0 c.args.text.now c.in-Ok.field-0.now c.in-Ok.ensures.value.1 ∙ ap (λ (bytes : List ℕ). Ok bytes)
    (sym (c.in-Ok.ensures.value.2 ∙ ap (λ (xs : List ℕ). xs ++ joined c.in-Ok.ensures.value.0) c.new-out.ensures.bytes) ∙ sym c.from_string.ensures)

pub returns-in-Err : goal.returns-in-Err
returns-in-Err c = decoded_halts c.args.text.now c.in-Err.halt.left c.in-Err.halt.stop c.in-Err.ensures.halt
