-- How the program ends: its line on standard error, and its exit status.
use Rattle.std.specs.Prelude.{ℕ, List, codes, Option, Some, None}
use Rattle.form_run.specs.Transcript.{code_of}
use Rattle.form_run.specs.declared.status.Status.{Status}
use Rattle.form_run.specs.declared.status.Status.TheVariants.{Done, Page, Usage, ReadFault, WriteFault, FileFault, Memory, TooLong, FileChanged}
use Rattle.form_lab.specs.declared.ending.Ending.{Ending}
use Rattle.form_lab.specs.declared.ending.Ending.TheVariants.{Ran, NoWords}

-- the exit status where the words of the command line can't be read
abbrev pub no_words_code : ℕ
no_words_code = 10

-- the line after a run; there is none where the transcript was written whole
abbrev pub line_after : Status → Option (List ℕ)
line_after Done = None
line_after Page = Some (codes "form_lab: page refused")
line_after Usage = Some (codes "form_lab: usage: form_lab BASE [FILE ...] | --generate N")
line_after ReadFault = Some (codes "form_lab: read fault")
line_after WriteFault = Some (codes "form_lab: write fault")
line_after FileFault = Some (codes "form_lab: file fault")
line_after Memory = Some (codes "form_lab: no memory")
line_after TooLong = Some (codes "form_lab: input too long")
line_after (FileChanged scanned given) = Some (codes "form_lab: file changed")

-- the line of an ending
abbrev pub line_of : Ending → Option (List ℕ)
line_of (Ran status) = line_after status
line_of NoWords = Some (codes "form_lab: words not read")

-- the exit status of an ending: after a run the code of its status
abbrev pub exit_code_of : Ending → ℕ
exit_code_of (Ran status) = code_of status
exit_code_of NoWords = no_words_code
