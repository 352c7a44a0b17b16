use Rattle.std.proofs.Common.{◌≡◌, drop}
use Rattle.form_types.specs.TypeTable.{kind_in, type_table}
use Rattle.form_types.proofs.kind.kind_named.Given as goal

abbrev pub invariant-loop-kind : goal.invariant-loop-kind
invariant-loop-kind l = kind_in l.keyword (drop l.kind-index type_table) ≡ kind_in l.keyword type_table
