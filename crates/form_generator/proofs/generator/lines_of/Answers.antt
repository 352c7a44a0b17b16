use Rattle.std.proofs.Common.{[], ◌++◌, ap, ◌∙◌, map, string_bytes}
use Rattle.std.proofs.lemmas.List.{map-append}
use Rattle.form_generator.specs.Generator.{commands_at}
use Rattle.form_generator.proofs.Numbered.{more-behind}
use Rattle.form_generator.proofs.generator.lines_of.Goals as goal

pub loop-before-preserved : goal.loop-before-preserved
loop-before-preserved c =
    more-behind commands_at [] _ _ c.loop-before.before c.loop-before.invariant
    (ap (map string_bytes) c.in_ok-append.ensures.items
    ∙ map-append string_bytes c.loop-before.lines.items c.in_ok-commands_at.field-0.items
    ∙ ap (λ ls. map string_bytes c.loop-before.lines.items ++ ls) c.in_ok-commands_at.ensures)
