use Rattle.std.proofs.Common.{get_or, refl, ap, sym, ◌∙◌}
use Rattle.std.specs.Option.{unwrap_or}
use Rattle.form_text.proofs.NumberLaws.{digits_end, digits_more, kept_all, kept_more}
use Rattle.form_text.proofs.integers.capped.Goals as goal

pub returns-then-not-is_ascii_digit : goal.returns-then-not-is_ascii_digit
returns-then-not-is_ascii_digit c =
    let ended = digits_end c.args.text.now c.loop-byte.byte-index (get_or c.args.text.now c.loop-byte.byte-index 0) refl (sym c.is_ascii_digit.ensures.value ∙ c.if-not-is_ascii_digit.true) in
    c.loop-byte.invariant.1 ∙ kept_all c.args.text.now c.loop-byte.byte-index c.loop-byte.invariant.0 ended

pub loop-byte-preserved : goal.loop-byte-preserved
loop-byte-preserved c =
    let byte = get_or c.args.text.now c.loop-byte.byte-index 0 in
    let digit = sym c.is_ascii_digit.ensures.value ∙ c.if-not-is_ascii_digit.false in
    let before = c.unwrap_or.ensures ∙ ap (λ number. unwrap_or number 0) c.loop-byte.invariant.1 in (
      digits_more c.args.text.now c.loop-byte.byte-index byte c.loop-byte-test.true refl digit c.loop-byte.invariant.0,
      rw (c.saturating_add.ensures, c.saturating_mul.ensures) (kept_more c.args.text.now c.loop-byte.byte-index byte c.unwrap_or.result c.loop-byte-test.true refl digit before),
    )
