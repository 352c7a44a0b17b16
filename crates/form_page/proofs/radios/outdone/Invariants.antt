use Rattle.std.proofs.Common.{◌≡◌, ◌-◌, drop, length}
use Rattle.std.specs.Prelude.{reverse}
use Rattle.form_page.specs.States.{outdone_of}
use Rattle.form_page.proofs.RadioLaws.{AreLasts}
use Rattle.form_page.proofs.radios.outdone.Given as goal

-- the marks of the last elements, turned round, and the last checked members among these
abbrev pub invariant-loop-passed : goal.invariant-loop-passed
invariant-loop-passed l = record {
  marked : l.marks.items ≡ reverse (outdone_of l.tree.nodes (drop (length l.nodes - l.passed) l.nodes));
  lasts : AreLasts l.tree.nodes l.lasts.items (drop (length l.nodes - l.passed) l.nodes);
}
