use Rattle.form_run.proofs.CountLaws.{generated_kind, generated_no_fault}
use Rattle.form_run.proofs.counting.write_generated.Goals as goal

pub returns-in-Ok-write_all-clause-kinds : goal.returns-in-Ok-write_all-clause-kinds
returns-in-Ok-write_all-clause-kinds g c = generated_kind _ _ c.in-Ok.ensures.end

pub returns-in-Ok-write_all-clause-write_fault : goal.returns-in-Ok-write_all-clause-write_fault
returns-in-Ok-write_all-clause-write_fault g c = λ e. absurd (generated_no_fault _ _ c.in-Ok.ensures.end e)
