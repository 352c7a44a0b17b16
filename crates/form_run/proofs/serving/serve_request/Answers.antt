use Rattle.form_ports.proofs.Laws.{NoneFell-same}
use Rattle.form_run.proofs.ChosenLaws.{stay_of, stay_same}
use Rattle.form_run.proofs.SubmittedLaws.{request_lost, request_part, request_said}
use Rattle.form_run.proofs.serving.serve_request.Goals as goal

pub returns-in_err-flush-clause-part : goal.returns-in_err-flush-clause-part
returns-in_err-flush-clause-part g c = request_lost _ _ _ _ _ _ c.requires c.in_err-flush.ensures.part c.in_err-flush.ensures.empty

pub returns-in_err-flush-clause-counts : goal.returns-in_err-flush-clause-counts
returns-in_err-flush-clause-counts g c = NoneFell-same _

pub returns-in-Ok-clause-said : goal.returns-in-Ok-clause-said
returns-in-Ok-clause-said g c = request_said _ _ _ _ _ _ _ c.in_ok-flush.ensures.whole c.in-Ok.ensures.whole c.in_ok-flush.ensures.empty

pub returns-in-Ok-clause-part : goal.returns-in-Ok-clause-part
returns-in-Ok-clause-part g c = request_part _ _ _ _ _ _ _ c.in_ok-flush.ensures.whole c.in-Ok.ensures.part c.in_ok-flush.ensures.empty

pub returns-in-Err-Sink-clause-part : goal.returns-in-Err-Sink-clause-part
returns-in-Err-Sink-clause-part g c = request_part _ _ _ _ _ _ _ c.in_ok-flush.ensures.whole c.write_request.ensures.part c.in_ok-flush.ensures.empty

pub returns-in-Err-Blob-clause-part : goal.returns-in-Err-Blob-clause-part
returns-in-Err-Blob-clause-part g c = request_part _ _ _ _ _ _ _ c.in_ok-flush.ensures.whole c.write_request.ensures.part c.in_ok-flush.ensures.empty

pub returns-in-Err-Changed-clause-part : goal.returns-in-Err-Changed-clause-part
returns-in-Err-Changed-clause-part g c = request_part _ _ _ _ _ _ _ c.in_ok-flush.ensures.whole c.write_request.ensures.part c.in_ok-flush.ensures.empty

pub returns-in_err-flush-clause-others : goal.returns-in_err-flush-clause-others
returns-in_err-flush-clause-others g c = stay_same _ _

pub returns-in-Ok-clause-others : goal.returns-in-Ok-clause-others
returns-in-Ok-clause-others g c = stay_of _ _ _ c.write_request.ensures.others

pub returns-in-Err-Sink-clause-others : goal.returns-in-Err-Sink-clause-others
returns-in-Err-Sink-clause-others g c = stay_of _ _ _ c.write_request.ensures.others

pub returns-in-Err-Blob-clause-others : goal.returns-in-Err-Blob-clause-others
returns-in-Err-Blob-clause-others g c = stay_of _ _ _ c.write_request.ensures.others

pub returns-in-Err-Changed-clause-others : goal.returns-in-Err-Changed-clause-others
returns-in-Err-Changed-clause-others g c = stay_of _ _ _ c.write_request.ensures.others
