use Rattle.std.proofs.Common.{length, map, refl, ap, ap₂, ◌∙◌}
use Rattle.form_judge.specs.Controls.{pattern_of}
use Rattle.form_judge.specs.Patterns.{all_recompiled, patterns_by}
use Rattle.form_judge.proofs.Laws.{patterns_stand, recompiled_long}
use Rattle.form_page.proofs.page.page_of.Goals as goal

pub kept_of-requires-clause-fresh : goal.kept_of-requires-clause-fresh
kept_of-requires-clause-fresh g c =
    ap length (c.deref_mut-2.ensures.value ∙ c.in_ok-fresh.ensures ∙ ap₂ all_recompiled c.nodes-2.ensures.value c.nodes-3.ensures.value)
    ∙ recompiled_long c.args.tree.nodes c.args.tree.nodes refl

pub kept_of-requires-clause-patterns : goal.kept_of-requires-clause-patterns
kept_of-requires-clause-patterns g c =
    ap₂ patterns_by (c.deref_mut.ensures.value ∙ c.in_ok-patterns.ensures ∙ ap (map pattern_of) c.nodes.ensures.value)
    (c.deref_mut-2.ensures.value ∙ c.in_ok-fresh.ensures ∙ ap₂ all_recompiled c.nodes-2.ensures.value c.nodes-3.ensures.value)
    ∙ patterns_stand c.args.tree.nodes c.args.tree.nodes refl
