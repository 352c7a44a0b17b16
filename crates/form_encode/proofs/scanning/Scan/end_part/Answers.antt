use Rattle.std.proofs.Common.{sym, subst, take}
use Rattle.form_encode.specs.Scanning.{StandsFor}
use Rattle.form_encode.proofs.FedLaws.{ended_part}
use Rattle.form_encode.proofs.scanning.Scan.end_part.Goals as goal

pub returns : goal.returns
returns c = λ bounds ended part stood.
    ended_part bounds ended part c.self.inside.marks.items (take c.self.inside.kept c.self.inside.room)
    (subst (λ s. StandsFor s bounds ended part) (sym c.self.view_is) stood)
