use Rattle.std.proofs.Common.{sym, ◌∙◌}
use Rattle.form_judge.proofs.PatternLaws.{all_put, put_step}
use Rattle.form_judge.proofs.patterns.put_patterns.Goals as goal

pub loop-pattern-preserved : goal.loop-pattern-preserved
loop-pattern-preserved c =
    put_step c.loop-pattern.patterns c.put_pattern.new.patterns c.loop-pattern.left.items c.pop.new.self.items c.in-Some.pattern c.len.result c.in-Some.ensures.items (c.len.ensures ∙ c.pop.new.self.ok.0) c.put_pattern.ensures
    ∙ c.loop-pattern.invariant

pub returns : goal.returns
returns c = all_put c.loop-pattern.patterns c.loop-pattern.left.items (sym c.loop-pattern.left.ok.0 ∙ c.in_default.ensures.cases.0) ∙ c.loop-pattern.invariant
