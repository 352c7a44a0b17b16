use Rattle.std.proofs.Common.{length}
use Rattle.std.specs.Str.{chars}
use Rattle.form_pattern.specs.Pieces.{tree_of}
use Rattle.form_pattern.specs.Steps.{bare, table_has}
use Rattle.form_pattern.proofs.RunLemmas.{Stands}
use Rattle.form_pattern.proofs.matching.whole.Given as goal

abbrev pub invariant-loop-c : goal.invariant-loop-c
invariant-loop-c l = Stands (table_has l.tables) (chars l.value) (bare (tree_of l.fn.node)) (chars l.rest.rest.now) (tree_of l.node) l.answer l.end

abbrev pub decreases-loop-c : goal.decreases-loop-c
decreases-loop-c l = length l.rest.rest.now
