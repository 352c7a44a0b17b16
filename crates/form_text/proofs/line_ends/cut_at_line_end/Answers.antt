use Rattle.std.proofs.Common.{◌≡◌, ◌-◌, arith, sym, ◌∙◌}
use Rattle.std.proofs.lemmas.Str.{IsCharBoundary-before_ascii, IsCharBoundary-after_ascii}
use Rattle.form_text.proofs.LineEndLaws.{first_line, no_line_end, newline_here}
use Rattle.form_text.proofs.line_ends.cut_at_line_end.Goals as goal

pub returns-in_default-clause-cut : goal.returns-in_default-clause-cut
returns-in_default-clause-cut c = λ end. no_line_end end _ (sym c.newline_place.ensures ∙ c.in_default.is)

pub range_from-requires : goal.range_from-requires
range_from-requires c =
    let here = newline_here c.args.text.now c.in-Some.at (sym c.newline_place.ensures ∙ c.in-Some.is) in
    λ _. IsCharBoundary-after_ascii c.args.text.now c.in-Some.at c.utf8.text here.0 here.1

pub range-requires-clause-end_boundary : goal.range-requires-clause-end_boundary
range-requires-clause-end_boundary c =
    let here = newline_here c.args.text.now c.in-Some.at (sym c.newline_place.ensures ∙ c.in-Some.is) in
    IsCharBoundary-before_ascii c.args.text.now c.in-Some.at here.0 here.1

pub returns-clause-cut : goal.returns-clause-cut
returns-clause-cut c = λ end.
    let from_start : c.in-Some.at - 0 ≡ c.in-Some.at = omega arith in
    rw (c.range.ensures.value, c.behind_line_end-behind.ensures, c.range_from.ensures.value, c.as_bytes.ensures.value, from_start)
    (first_line end c.args.text.now c.in-Some.at (sym c.newline_place.ensures ∙ c.in-Some.is))
