use Rattle.std.proofs.Common.{sym, ap, ◌∙◌}
use Rattle.form_judge.specs.Patterns.{with_pattern_at}
use Rattle.form_judge.proofs.PatternLaws.{none_placed, placed_past, placed_there}
use Rattle.form_judge.proofs.patterns.put_pattern.Goals as goal

pub returns-in_default : goal.returns-in_default
returns-in_default c = rw c.in_default.is (none_placed c.args.patterns.now c.args.place)

pub returns-then-place-patterns : goal.returns-then-place-patterns
returns-then-place-patterns c =
    placed_there c.args.patterns.now c.args.place c.in-Some.pattern c.if-place-patterns.true
    ∙ ap (with_pattern_at c.args.patterns.now c.args.place) (sym c.in-Some.is)

pub returns-else-place-patterns : goal.returns-else-place-patterns
returns-else-place-patterns c = placed_past c.args.patterns.now c.args.place c.args.fresh c.if-place-patterns.false
