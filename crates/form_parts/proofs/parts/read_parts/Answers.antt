use Rattle.form_ports.proofs.Laws.{Err-again, NoneFell-same}
use Rattle.form_parts.proofs.PartLaws.{HasParts-whole}
use Rattle.form_parts.proofs.parts.read_parts.Goals as goal

pub returns-in-Err-clause-counts : goal.returns-in-Err-clause-counts
returns-in-Err-clause-counts g c = NoneFell-same _

pub returns-in-Ok-scan_entries-clause-parts : goal.returns-in-Ok-scan_entries-clause-parts
returns-in-Ok-scan_entries-clause-parts g c =
    HasParts-whole _ _ _ _ _ _ _ _ _ c.in-Ok.ensures c.in-Ok-scan_entries.ensures.parts c.free.ensures.value

pub returns-clause-stops : goal.returns-clause-stops
returns-clause-stops g c = λ long. c.in-Err-scan_entries.ensures.stops (Err-again _ _ long)
