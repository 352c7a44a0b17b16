use Rattle.form_run.proofs.FilesLaws.{came_same}
use Rattle.form_run.proofs.TranscriptLaws.{ended_input, ended_part, input_untouched, wrote_nothing}
use Rattle.form_run.proofs.transcript.transcribe.Goals as goal

pub returns-in-Err-clause-part : goal.returns-in-Err-clause-part
returns-in-Err-clause-part g c = wrote_nothing _ _ _ _ _

pub returns-in-Err-clause-kept : goal.returns-in-Err-clause-kept
returns-in-Err-clause-kept g c = input_untouched _ _ _ _ _

pub returns-in-Err-clause-counts : goal.returns-in-Err-clause-counts
returns-in-Err-clause-counts g c = came_same _

pub returns-in-Ok-flush-clause-end : goal.returns-in-Ok-flush-clause-end
returns-in-Ok-flush-clause-end g c =
    rw c.status_of.ensures (ended_input _ _ _ _ _ _ _ _ _ c.say_input-ended.result (rw c.deref.ensures.value at c.say_input-ended.ensures.end) (rw c.deref.ensures.value at c.say_input-ended.ensures.said)
    c.in-Ok.ensures.items c.in-Ok-flush.ensures.whole)

pub returns-in-Ok-flush-clause-part : goal.returns-in-Ok-flush-clause-part
returns-in-Ok-flush-clause-part g c = ended_part _ _ _ _ _ _ _ _ _ (rw c.deref.ensures.value at c.say_input-ended.ensures.part) c.in-Ok.ensures.items c.in-Ok-flush.ensures.part

pub returns-clause-part : goal.returns-clause-part
returns-clause-part g c = ended_part _ _ _ _ _ _ _ _ _ (rw c.deref.ensures.value at c.say_input-ended.ensures.part) c.in-Ok.ensures.items c.flush.ensures.part
