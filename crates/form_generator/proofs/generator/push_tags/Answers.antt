use Rattle.form_generator.specs.Generator.{tag_at}
use Rattle.form_generator.proofs.Numbered.{more-behind}
use Rattle.form_generator.proofs.generator.push_tags.Goals as goal

pub loop-before-preserved : goal.loop-before-preserved
loop-before-preserved c = more-behind tag_at _ _ _ c.loop-before.before c.loop-before.invariant c.in_ok-push_tag.ensures
