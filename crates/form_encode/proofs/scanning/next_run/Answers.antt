use Rattle.std.proofs.Common.{arith}
use Rattle.form_encode.proofs.MarkLaws.{run_found, run_none}
use Rattle.form_encode.proofs.scanning.next_run.Goals as goal

pub returns-in-Some : goal.returns-in-Some
returns-in-Some c =
    run_found _ _ _ _ c.requires (rw c.behind.ensures at c.in-Some.ensures) c.dashes_end-end.ensures.low c.dashes_end-end.ensures.high c.dashes_end-end.ensures.dashes
    c.dashes_end-end.ensures.other

pub returns-in-None : goal.returns-in-None
returns-in-None c = run_none _ _ c.requires (rw c.behind.ensures at c.in-None.ensures)
