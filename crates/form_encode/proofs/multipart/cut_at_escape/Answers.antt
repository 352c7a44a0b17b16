use Rattle.std.proofs.Common.{◌≡◌, ◌-◌, arith, sym, ◌∙◌}
use Rattle.std.proofs.lemmas.Str.{IsCharBoundary-before_ascii, IsCharBoundary-after_ascii}
use Rattle.form_encode.proofs.EscapeLaws.{escaped_none, escaped_at, escape_here}
use Rattle.form_encode.proofs.multipart.cut_at_escape.Goals as goal

pub returns-in_default-clause-cut : goal.returns-in_default-clause-cut
returns-in_default-clause-cut c = escaped_none _ (sym c.escape_place.ensures ∙ c.in_default.is)

pub range_from-requires : goal.range_from-requires
range_from-requires c =
    let here = escape_here c.args.name.now c.in-Some.at (sym c.escape_place.ensures ∙ c.in-Some.is) in
    λ _. IsCharBoundary-after_ascii c.args.name.now c.in-Some.at c.utf8.name here.0 here.1

pub range-requires-clause-end_boundary : goal.range-requires-clause-end_boundary
range-requires-clause-end_boundary c =
    let here = escape_here c.args.name.now c.in-Some.at (sym c.escape_place.ensures ∙ c.in-Some.is) in
    IsCharBoundary-before_ascii c.args.name.now c.in-Some.at here.0 here.1

pub returns-clause-cut : goal.returns-clause-cut
returns-clause-cut c =
    let from_start : c.in-Some.at - 0 ≡ c.in-Some.at = omega arith in
    rw (c.range.ensures.value, c.escape.ensures, c.range_from.ensures.value, c.as_bytes.ensures.value, from_start)
    (escaped_at c.args.name.now c.in-Some.at (sym c.escape_place.ensures ∙ c.in-Some.is))

pub escape-requires : goal.escape-requires
escape-requires c =
    rw (c.as_bytes.ensures.value) (escape_here c.args.name.now c.in-Some.at (sym c.escape_place.ensures ∙ c.in-Some.is)).2
