use Rattle.std.proofs.Common.{◌≡◌, ◌++◌, string_bytes}
use Rattle.std.specs.Prelude.{flat_map}
use Rattle.form_generator.specs.Generator.{numbers_to, tag_at}
use Rattle.form_generator.proofs.generator.push_tags.Given as goal

-- the tags so far stand behind the page
abbrev pub invariant-loop-before : goal.invariant-loop-before
invariant-loop-before l =
    string_bytes l.page ≡ string_bytes l.initial.page ++ flat_map tag_at (numbers_to l.before)
