use Rattle.form_run.proofs.FilesLaws.{came_same}
use Rattle.form_run.proofs.TranscriptLaws.{input_nothing, input_untouched}
use Rattle.form_run.proofs.transcript.say_input.Goals as goal

pub returns-in_err-say_text-in-Err-Refused-clause-counts : goal.returns-in_err-say_text-in-Err-Refused-clause-counts
returns-in_err-say_text-in-Err-Refused-clause-counts g c = came_same _

pub returns-in-Err-Refused-clause-counts : goal.returns-in-Err-Refused-clause-counts
returns-in-Err-Refused-clause-counts g c = came_same _

pub returns-clause-part : goal.returns-clause-part
returns-clause-part g c = input_nothing _ _ _ _ _ _

pub returns-clause-kept : goal.returns-clause-kept
returns-clause-kept g c = input_untouched _ _ _ _ _

pub returns-clause-counts : goal.returns-clause-counts
returns-clause-counts g c = came_same _

pub returns-in_err-say_text-in-Err-Refused-clause-kept : goal.returns-in_err-say_text-in-Err-Refused-clause-kept
returns-in_err-say_text-in-Err-Refused-clause-kept g c = input_untouched _ _ _ _ _

pub returns-in-Err-Refused-clause-kept : goal.returns-in-Err-Refused-clause-kept
returns-in-Err-Refused-clause-kept g c = input_untouched _ _ _ _ _
