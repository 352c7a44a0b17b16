use Rattle.form_ports.proofs.Laws.{NoneFell-same}
use Rattle.form_parts.proofs.entry.scan_part.Goals as goal

pub returns-in-Ok-clause-counts : goal.returns-in-Ok-clause-counts
returns-in-Ok-clause-counts g c = NoneFell-same _

pub returns-in-Err-clause-counts : goal.returns-in-Err-clause-counts
returns-in-Err-clause-counts g c = NoneFell-same _

pub returns-in-File-None-default-clause-counts : goal.returns-in-File-None-default-clause-counts
returns-in-File-None-default-clause-counts g c = NoneFell-same _
