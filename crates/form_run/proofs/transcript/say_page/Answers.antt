use Rattle.std.proofs.Common.{Ok, map, ◌∙◌}
use Rattle.std.specs.Prelude.{string_bytes}
use Rattle.form_ports.specs.Shelf.{contents_of}
use Rattle.form_input.specs.Lines.{lines_of}
use Rattle.std.proofs.lemmas.List.{length-map}
use Rattle.std.proofs.lemmas.Result.{on_ok_weaker}
use Rattle.form_run.proofs.ChosenLaws.{opened_unnamed}
use Rattle.form_run.proofs.FilesLaws.{came_same, opened_files}
use Rattle.form_run.proofs.TranscriptLaws.{files_untouched, page_nothing, page_part, page_part_then, page_then}
use Rattle.form_run.proofs.transcript.say_page.Goals as goal

pub returns-in_err-line-clause-part : goal.returns-in_err-line-clause-part
returns-in_err-line-clause-part g c =
    page_nothing (contents_of (λ b. (goal.Blob-dyn g (b.vtable, b.value)).content b.value) c.args.shelf.now.items) c.args.base (map string_bytes c.args.names.items) (lines_of c.args.commands.now) _ _ (Ok c.args.raws.items)

pub returns-in_err-line-clause-kept : goal.returns-in_err-line-clause-kept
returns-in_err-line-clause-kept g c =
    files_untouched (contents_of (λ b. (goal.Blob-dyn g (b.vtable, b.value)).content b.value) c.args.shelf.now.items) c.args.base (map string_bytes c.args.names.items) (lines_of c.args.commands.now) _ (Ok c.args.raws.items)

pub returns-in_err-line-clause-counts : goal.returns-in_err-line-clause-counts
returns-in_err-line-clause-counts g c = came_same _

pub returns-in_err-session-clause-part : goal.returns-in_err-session-clause-part
returns-in_err-session-clause-part g c =
    page_nothing (contents_of (λ b. (goal.Blob-dyn g (b.vtable, b.value)).content b.value) c.args.shelf.now.items) c.args.base (map string_bytes c.args.names.items) (lines_of c.args.commands.now) _ _ (Ok c.args.raws.items)

pub returns-in_err-session-clause-kept : goal.returns-in_err-session-clause-kept
returns-in_err-session-clause-kept g c =
    files_untouched (contents_of (λ b. (goal.Blob-dyn g (b.vtable, b.value)).content b.value) c.args.shelf.now.items) c.args.base (map string_bytes c.args.names.items) (lines_of c.args.commands.now) _ (Ok c.args.raws.items)

pub returns-in_err-session-clause-counts : goal.returns-in_err-session-clause-counts
returns-in_err-session-clause-counts g c = came_same _

pub returns-in_err-say_text-clause-part : goal.returns-in_err-say_text-clause-part
returns-in_err-say_text-clause-part g c = page_part _ _ _ _ _ _ _ _ _ _ (cc (c.as_str.ensures.value, c.in_ok-line.ensures, c.len.ensures, c.args.raws.ok.0)) c.in_err-say_text.ensures.part

pub returns-in_err-say_text-clause-kept : goal.returns-in_err-say_text-clause-kept
returns-in_err-say_text-clause-kept g c =
    files_untouched (contents_of (λ b. (goal.Blob-dyn g (b.vtable, b.value)).content b.value) c.args.shelf.now.items) c.args.base (map string_bytes c.args.names.items) (lines_of c.args.commands.now) _ (Ok c.args.raws.items)

pub returns-in_err-say_text-clause-counts : goal.returns-in_err-say_text-clause-counts
returns-in_err-say_text-clause-counts g c = came_same _

pub serve_all-requires-clause-unnamed : goal.serve_all-requires-clause-unnamed
serve_all-requires-clause-unnamed g c = opened_unnamed _ _ _ _ c.requires.openable c.in_ok-session.ensures

pub serve_all-requires-clause-files : goal.serve_all-requires-clause-files
serve_all-requires-clause-files g c = opened_files _ _ _ _ _ _ c.in_ok-session.ensures (length-map _ _ ∙ c.requires.files) c.requires.there

pub returns-clause-said : goal.returns-clause-said
returns-clause-said g c =
    on_ok_weaker c.serve_all.result (λ said. page_then _ _ _ _ _ _ _ _ _ _ _ _ (cc (c.as_str.ensures.value, c.in_ok-line.ensures, c.len.ensures, c.args.raws.ok.0)) c.in_ok-say_text.ensures.said said)
    (rw c.in_ok-session.ensures at c.serve_all.ensures.said)

pub returns-clause-part : goal.returns-clause-part
returns-clause-part g c =
    page_part_then _ _ _ _ _ _ _ _ _ _ _ _ (cc (c.as_str.ensures.value, c.in_ok-line.ensures, c.len.ensures, c.args.raws.ok.0)) c.in_ok-say_text.ensures.said (rw c.in_ok-session.ensures at c.serve_all.ensures.part)
