use Rattle.std.proofs.Common.{◌≡◌, Err, ap, sym, ◌∙◌}
use Rattle.form_input.proofs.CountWords.{count-found, count-none, is_written}
use Rattle.form_input.proofs.words.generated_count.Goals as goal

pub returns-then-is_count : goal.returns-then-is_count
returns-then-is_count c = count-found c.args.word.now c.in-Ok.count (sym c.is_count.ensures ∙ c.if-is_count.true)

pub returns-else-is_count : goal.returns-else-is_count
returns-else-is_count c =
    count-none c.args.word.now c.parse.result c.parse.ensures.value.0 (λ count e.
    let same : c.in-Ok.count ≡ count = cc in
    ap (is_written c.args.word.now) (sym same) ∙ sym c.is_count.ensures ∙ c.if-is_count.false)

pub returns-in-Err : goal.returns-in-Err
returns-in-Err c = count-none c.args.word.now (Err c.in-Err.field-0) c.in-Err.ensures.value.0 (λ count e. absurd (cc))
