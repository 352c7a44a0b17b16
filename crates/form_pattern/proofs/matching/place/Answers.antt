use Rattle.form_pattern.specs.Pieces.{tree_of}
use Rattle.form_pattern.specs.Steps.{see, table_has}
use Rattle.form_pattern.proofs.NodeLemmas.{alone}
use Rattle.form_pattern.proofs.matching.place.Goals as goal

pub returns-clause-seen : goal.returns-clause-seen
returns-clause-seen c = alone c.step.result (see (table_has c.args.tables.now) c.args.first c.args.here c.args.k (tree_of c.args.node.now)) (simp (c.step.ensures.seen, c.still.ensures))
