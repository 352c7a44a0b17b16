use Rattle.form_states.proofs.LimitsLaws.{range_ends}
use Rattle.form_states.proofs.limits.Limits.of.Goals as goal

pub returns-clause-limits : goal.returns-clause-limits
returns-clause-limits c = record {
  step = c.from_attributes-limits.ensures.step;
  ends = rw c.from_attributes-limits.ensures.value (range_ends c.args.kind _ _ _ _);
}
