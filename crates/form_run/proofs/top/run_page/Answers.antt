use Rattle.std.proofs.Common.{Err, ap, refl, ◌∙◌}
use Rattle.form_run.proofs.FilesLaws.{came_same}
use Rattle.form_run.proofs.Runs.{memory_whole, of_any, of_input, page_of_end, rose_complete, whole_or_memory}
use Rattle.form_run.proofs.TranscriptLaws.{input_untouched, wrote_nothing}
use Rattle.form_run.proofs.top.run_page.Goals as goal

pub returns-in-Ok-clause-page : goal.returns-in-Ok-clause-page
returns-in-Ok-clause-page g c =
    of_input _ _ _ _ _ _ c.in-Ok.ensures.whole c.in-Ok.ensures.end (page_of_end _ _ c.transcribe.ensures.kinds (λ e. (c.transcribe.ensures.end e).end))

pub returns-in-Ok-clause-complete : goal.returns-in-Ok-clause-complete
returns-in-Ok-clause-complete g c =
    of_input _ _ _ _ _ _ c.in-Ok.ensures.whole c.in-Ok.ensures.end (λ short tell quiet calm silent. whole_or_memory _ _ _ _ _ _ _ _ _ _ _ _ _ _ c.transcribe.ensures.kinds
    c.in-Ok.ensures.end c.transcribe.ensures.end c.transcribe.ensures.kept c.transcribe.ensures.write_fault c.transcribe.ensures.file_fault c.transcribe.ensures.changed tell calm silent)

pub returns-in-Err-Fault-clause-part : goal.returns-in-Err-Fault-clause-part
returns-in-Err-Fault-clause-part g c = of_any _ _ (λ input. wrote_nothing _ _ _ _ _)

pub returns-in-Err-Fault-clause-complete : goal.returns-in-Err-Fault-clause-complete
returns-in-Err-Fault-clause-complete g c = rose_complete _ _ _ _ _ _ (c.read_all.ensures.fault (c.in-Err-Fault.is ∙ ap (λ e. Err e) c.in-Err-Fault.field-0-is))

pub returns-in-Err-Fault-clause-kept : goal.returns-in-Err-Fault-clause-kept
returns-in-Err-Fault-clause-kept g c = of_any _ _ (λ input. input_untouched _ _ _ _ _)

pub returns-in-Err-Fault-clause-counts : goal.returns-in-Err-Fault-clause-counts
returns-in-Err-Fault-clause-counts g c = came_same _

pub returns-in-Err-TooLong-clause-part : goal.returns-in-Err-TooLong-clause-part
returns-in-Err-TooLong-clause-part g c = of_any _ _ (λ input. wrote_nothing _ _ _ _ _)

pub returns-in-Err-TooLong-clause-kept : goal.returns-in-Err-TooLong-clause-kept
returns-in-Err-TooLong-clause-kept g c = of_any _ _ (λ input. input_untouched _ _ _ _ _)

pub returns-in-Err-TooLong-clause-counts : goal.returns-in-Err-TooLong-clause-counts
returns-in-Err-TooLong-clause-counts g c = came_same _

pub returns-clause-read_fault : goal.returns-clause-read_fault
returns-clause-read_fault g c = λ e. absurd (cc e)

pub returns-clause-too_long : goal.returns-clause-too_long
returns-clause-too_long g c = λ e. absurd (cc e)

pub returns-clause-complete : goal.returns-clause-complete
returns-clause-complete g c = memory_whole _ _ _ _ _ _ _ refl

pub returns-clause-part : goal.returns-clause-part
returns-clause-part g c = of_any _ _ (λ input. wrote_nothing _ _ _ _ _)

pub returns-clause-kept : goal.returns-clause-kept
returns-clause-kept g c = of_any _ _ (λ input. input_untouched _ _ _ _ _)

pub returns-clause-counts : goal.returns-clause-counts
returns-clause-counts g c = came_same _
