use Rattle.std.proofs.Common.{map, refl, sym, ◌∙◌}
use Rattle.std.specs.Prelude.{string_bytes}
use Rattle.std.proofs.lemmas.List.{length-map}
use Rattle.form_input.proofs.Laws.{generated-count, page-names}
use Rattle.form_run.proofs.FilesLaws.{came_same}
use Rattle.form_run.proofs.OneFront.{known_front, known_written, nothing_known, page_known}
use Rattle.form_run.proofs.OneTranscript.{one_expected}
use Rattle.form_run.proofs.Runs.{memory_complete, memory_is_no_usage, not_generated, task_nothing, task_untouched}
use Rattle.form_run.proofs.SoundLaws.{run_sound}
use Rattle.form_run.proofs.top.run.Goals as goal

pub run_page-requires-clause-files : goal.run_page-requires-clause-files
run_page-requires-clause-files g c =
    let n = page-names (map string_bytes c.args.words.now) c.in-Ok-Page.base (map string_bytes c.in-Ok-Page.names.items) (rw (c.in-Ok-Page.is, c.in-Ok-Page.field-0-is) at c.task_of.ensures.ok) in
    sym (length-map _ _) ∙ n.2 ∙ c.requires.files n.0

pub run_page-requires-clause-there : goal.run_page-requires-clause-there
run_page-requires-clause-there g c =
    c.requires.there (page-names (map string_bytes c.args.words.now) c.in-Ok-Page.base (map string_bytes c.in-Ok-Page.names.items) (rw (c.in-Ok-Page.is, c.in-Ok-Page.field-0-is) at c.task_of.ensures.ok)).0

pub write_generated-requires-clause-few : goal.write_generated-requires-clause-few
write_generated-requires-clause-few g c = (generated-count (map string_bytes c.args.words.now) c.in-Ok-Generated.count (rw (c.in-Ok-Generated.is, c.in-Ok-Generated.field-0-is) at c.task_of.ensures.ok)).2

pub returns-in-Ok-Generated-clause-counts : goal.returns-in-Ok-Generated-clause-counts
returns-in-Ok-Generated-clause-counts g c = came_same _

pub returns-in-Err-Usage-clause-counts : goal.returns-in-Err-Usage-clause-counts
returns-in-Err-Usage-clause-counts g c = came_same _

pub returns-in-Err-Memory-clause-usage : goal.returns-in-Err-Memory-clause-usage
returns-in-Err-Memory-clause-usage g c = memory_is_no_usage

pub returns-in-Err-Memory-clause-complete : goal.returns-in-Err-Memory-clause-complete
returns-in-Err-Memory-clause-complete g c = memory_complete _ _ _ _ _ _ _ _ _ _ refl

pub returns-in-Err-Memory-clause-part : goal.returns-in-Err-Memory-clause-part
returns-in-Err-Memory-clause-part g c = task_nothing _ _ _ _

pub returns-in-Err-Memory-clause-kept : goal.returns-in-Err-Memory-clause-kept
returns-in-Err-Memory-clause-kept g c = task_untouched _ _ _ _

pub returns-in-Err-Memory-clause-counts : goal.returns-in-Err-Memory-clause-counts
returns-in-Err-Memory-clause-counts g c = came_same _

pub returns-in-Ok-Page-clause-generated : goal.returns-in-Ok-Page-clause-generated
returns-in-Ok-Page-clause-generated g c =
    λ count same. absurd (not_generated _ _ _ count (rw (c.in-Ok-Page.is, c.in-Ok-Page.field-0-is) at c.task_of.ensures.ok) same)

pub returns-in-Ok-Page-clause-one : goal.returns-in-Ok-Page-clause-one
returns-in-Ok-Page-clause-one g c = one_expected

pub returns-in-Ok-Generated-clause-one : goal.returns-in-Ok-Generated-clause-one
returns-in-Ok-Generated-clause-one g c = one_expected

pub returns-in-Err-Usage-clause-one : goal.returns-in-Err-Usage-clause-one
returns-in-Err-Usage-clause-one g c = one_expected

pub returns-in-Err-Memory-clause-one : goal.returns-in-Err-Memory-clause-one
returns-in-Err-Memory-clause-one g c = one_expected

pub returns-in-Ok-Page-clause-sound : goal.returns-in-Ok-Page-clause-sound
returns-in-Ok-Page-clause-sound g c = run_sound

pub returns-in-Ok-Generated-clause-sound : goal.returns-in-Ok-Generated-clause-sound
returns-in-Ok-Generated-clause-sound g c = run_sound

pub returns-in-Err-Usage-clause-sound : goal.returns-in-Err-Usage-clause-sound
returns-in-Err-Usage-clause-sound g c = run_sound

pub returns-in-Err-Memory-clause-sound : goal.returns-in-Err-Memory-clause-sound
returns-in-Err-Memory-clause-sound g c = run_sound

pub returns-in-Ok-Generated-clause-kept : goal.returns-in-Ok-Generated-clause-kept
returns-in-Ok-Generated-clause-kept g c = task_untouched _ _ _ _

pub returns-in-Err-Usage-clause-kept : goal.returns-in-Err-Usage-clause-kept
returns-in-Err-Usage-clause-kept g c = task_untouched _ _ _ _

pub returns-in-Ok-Page-clause-front : goal.returns-in-Ok-Page-clause-front
returns-in-Ok-Page-clause-front g c = known_front

pub returns-in-Ok-Generated-clause-front : goal.returns-in-Ok-Generated-clause-front
returns-in-Ok-Generated-clause-front g c = known_front

pub returns-in-Err-Usage-clause-front : goal.returns-in-Err-Usage-clause-front
returns-in-Err-Usage-clause-front g c = known_front

pub returns-in-Err-Memory-clause-front : goal.returns-in-Err-Memory-clause-front
returns-in-Err-Memory-clause-front g c = known_front

pub returns-in-Ok-Page-clause-known : goal.returns-in-Ok-Page-clause-known
returns-in-Ok-Page-clause-known g c =
    page_known _ c.in-Ok-Page.base (map string_bytes c.in-Ok-Page.names.items) _ _ _ _ _ (rw (c.in-Ok-Page.is, c.in-Ok-Page.field-0-is) at c.task_of.ensures.ok)
    (known_written _ _ _ _ _ _ _ _ _ _ _ c.run_page.ensures.end c.run_page.ensures.part)

pub returns-in-Err-Memory-clause-known : goal.returns-in-Err-Memory-clause-known
returns-in-Err-Memory-clause-known g c = nothing_known _ _ _ _ _ refl

pub returns-in-Err-Usage-clause-known : goal.returns-in-Err-Usage-clause-known
returns-in-Err-Usage-clause-known g c = nothing_known _ _ _ _ _ refl
