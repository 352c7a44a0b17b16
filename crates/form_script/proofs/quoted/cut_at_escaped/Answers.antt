use Rattle.std.proofs.Common.{◌≡◌, ◌-◌, arith, sym, ◌∙◌}
use Rattle.std.proofs.lemmas.Str.{IsCharBoundary-before_ascii, IsCharBoundary-after_ascii}
use Rattle.form_script.proofs.QuotedLaws.{all_kept, escaped_here, first_escaped}
use Rattle.form_script.proofs.quoted.cut_at_escaped.Goals as goal

pub returns-in_default-clause-cut : goal.returns-in_default-clause-cut
returns-in_default-clause-cut c = all_kept _ (sym c.escaped_place.ensures ∙ c.in_default.is)

pub range_from-requires : goal.range_from-requires
range_from-requires c =
    let here = escaped_here c.args.text.now c.in-Some.at (sym c.escaped_place.ensures ∙ c.in-Some.is) in
    λ _. IsCharBoundary-after_ascii c.args.text.now c.in-Some.at c.utf8.text here.0 here.1

pub range-requires-clause-end_boundary : goal.range-requires-clause-end_boundary
range-requires-clause-end_boundary c =
    let here = escaped_here c.args.text.now c.in-Some.at (sym c.escaped_place.ensures ∙ c.in-Some.is) in
    IsCharBoundary-before_ascii c.args.text.now c.in-Some.at here.0 here.1

pub returns-clause-cut : goal.returns-clause-cut
returns-clause-cut c =
    let from_start : c.in-Some.at - 0 ≡ c.in-Some.at = omega arith in
    rw (c.range.ensures.value, c.range_from.ensures.value, c.as_bytes.ensures.value, from_start)
    (first_escaped c.args.text.now c.in-Some.at (sym c.escaped_place.ensures ∙ c.in-Some.is))

pub returns-clause-escaped : goal.returns-clause-escaped
returns-clause-escaped c =
    rw c.as_bytes.ensures.value (escaped_here c.args.text.now c.in-Some.at (sym c.escaped_place.ensures ∙ c.in-Some.is)).2
