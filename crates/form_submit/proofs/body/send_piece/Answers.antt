use Rattle.form_ports.proofs.Laws.{NoneFell-same}
use Rattle.form_submit.proofs.SendLaws.{other-file, BodyCause-file, LastSizes-bytes, LastSizes-file}
use Rattle.form_submit.proofs.body.send_piece.Goals as goal

pub returns-in-Ok-clause-counts : goal.returns-in-Ok-clause-counts
returns-in-Ok-clause-counts g c = NoneFell-same _

pub returns-in-Err-clause-counts : goal.returns-in-Err-clause-counts
returns-in-Err-clause-counts g c = NoneFell-same _

pub returns-in-File-clause-others : goal.returns-in-File-clause-others
returns-in-File-clause-others g c = rw c.in-File.is (λ k apart. c.send_numbered.ensures.others k (other-file _ _ k apart))

pub returns-in-File-clause-cause : goal.returns-in-File-clause-cause
returns-in-File-clause-cause g c = rw c.in-File.is (BodyCause-file _ _ _ _ _ _ _ c.send_numbered.result c.send_numbered.ensures.cause)

pub returns-in-Ok-clause-position : goal.returns-in-Ok-clause-position
returns-in-Ok-clause-position g c = rw c.in-Bytes.is (LastSizes-bytes _ _)

pub returns-in-File-clause-position : goal.returns-in-File-clause-position
returns-in-File-clause-position g c =
    rw c.in-File.is (LastSizes-file _ _ _ c.send_numbered.result c.send_numbered.ensures.position)
