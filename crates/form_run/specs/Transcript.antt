-- What a run writes, how it ends, and what its files are then.
use Rattle.std.specs.Prelude.{◌≡◌, ℕ, List, [], ◌++◌, length, Bool, true, false, Option, Result, Ok, Err, ◌⊎◌, ⊤}
use Rattle.std.specs.Str.{is_utf8}
use Rattle.std.specs.Io.KnownBytes.{append_known, IsAtEnd}
use Rattle.url.specs.Parts.{Parts}
use Rattle.form_ports.specs.Written.{WrotePart}
use Rattle.form_tree.specs.declared.node.Raw.{Raw}
use Rattle.form_markup.specs.Spelling.{IsFault, Spells}
use Rattle.form_tokens.specs.declared.fault.Fault.{Fault}
use Rattle.form_input.specs.Input.{command_lines}
use Rattle.form_input.specs.Moved.{Gave}
use Rattle.form_replies.specs.PageLines.{page_line}
use Rattle.form_replies.specs.declared.stop.Stop.{Stop}
use Rattle.form_replies.specs.declared.stop.Stop.TheVariants as stops
use Rattle.form_run.specs.Counting.{generated_end, generated_text}
use Rattle.form_run.specs.Replies.{AreFilesUpTo, AreReplies, files_after_all}
use Rattle.form_run.specs.Session.{Files, opened}
use Rattle.form_run.specs.Taken.{page_in, page_of}
use Rattle.form_run.specs.declared.status.Status.{Status}
use Rattle.form_run.specs.declared.status.Status.TheVariants as ends

-- ---- the transcript

-- the transcript of a page, or of the line that refuses it, and of lines
abbrev pub IsTranscript : Files → Parts → List (List ℕ) → List (List ℕ) → Result (List Raw) (List ℕ) → List ℕ → Type 0
IsTranscript files base names lines (Err line) text = text ≡ line
IsTranscript files base names lines (Ok raws) text =
    (replies : List ℕ) × AreReplies files (opened base raws names) lines replies
    × (text ≡ page_line (length raws) ++ replies)

-- the text that a run over an input writes
abbrev pub IsExpected : Files → Parts → List (List ℕ) → List ℕ → List ℕ → Type 0
IsExpected files base names input text = IsTranscript files base names (command_lines input) (page_in input) text

-- the end of the transcript
abbrev pub end_of : Result (List Raw) (List ℕ) → Status
end_of (Err line) = ends.Page
end_of (Ok raws) = ends.Done

abbrev pub expected_end : List ℕ → Status
expected_end input = end_of (page_in input)

-- ---- the files

-- the files after a whole run
abbrev pub files_at_end : Parts → List (List ℕ) → List (List ℕ) → Result (List Raw) (List ℕ) → Files → Files
files_at_end base names lines (Err line) files = files
files_at_end base names lines (Ok raws) files = files_after_all (opened base raws names) files lines

abbrev pub expected_files : Parts → List (List ℕ) → List ℕ → Files → Files
expected_files base names input files = files_at_end base names (command_lines input) (page_in input) files

-- the files after some of a run's lines
abbrev pub AreFilesSoFar : {B : Type 0} → Parts → List (List ℕ) → List (List ℕ) → Result (List Raw) (List ℕ)
    → (old new : Files) → (shelf left : List (Option B)) → Type 0
AreFilesSoFar base names lines (Err line) old new shelf left = (new ≡ old) × (left ≡ shelf)
AreFilesSoFar base names lines (Ok raws) old new shelf left =
    AreFilesUpTo (opened base raws names) lines old new shelf left

abbrev pub AreExpectedUpTo : {B : Type 0} → Parts → List (List ℕ) → List ℕ → (old new : Files)
    → (shelf left : List (Option B)) → Type 0
AreExpectedUpTo base names input old new shelf left =
    AreFilesSoFar base names (command_lines input) (page_in input) old new shelf left

-- ---- the page

-- the text spells a page
abbrev pub SpellsPage : List ℕ → Type 0
SpellsPage text = (raws : List Raw) × Spells [] text raws

-- the text has a fault
abbrev pub HasFault : List ℕ → Type 0
HasFault text = (kind : Fault) × (place : ℕ) × IsFault [] text kind place

-- With the end Done the input is UTF-8 and spells a page; with the end Page it is not UTF-8, or its page has a fault.
abbrev pub PageIs : Status → List ℕ → Type 0
PageIs ends.Done input = (is_utf8 input ≡ true) × SpellsPage (page_of input)
PageIs ends.Page input = (is_utf8 input ≡ false) ⊎ HasFault (page_of input)
PageIs status input = ⊤

-- ---- kinds of ends

-- the run wrote the whole text
abbrev pub IsEnd : Status → Bool
IsEnd ends.Done = true
IsEnd ends.Page = true
IsEnd status = false

-- nothing is written with such an end
abbrev pub IsSilent : Status → Bool
IsSilent ends.Usage = true
IsSilent ends.ReadFault = true
IsSilent ends.TooLong = true
IsSilent status = false

-- no file is gone with such an end
abbrev pub IsUntouched : Status → Bool
IsUntouched ends.Page = true
IsUntouched status = IsSilent status

-- the ends that reading the input may have
abbrev pub IsReadingEnd : Status → Bool
IsReadingEnd ends.ReadFault = true
IsReadingEnd ends.TooLong = true
IsReadingEnd ends.Memory = true
IsReadingEnd status = false

-- the ends that writing a transcript may have
abbrev pub IsWritingEnd : Status → Bool
IsWritingEnd ends.Usage = false
IsWritingEnd ends.ReadFault = false
IsWritingEnd ends.TooLong = false
IsWritingEnd status = true

-- the ends that writing counts may have
abbrev pub is_generated_end : Status → Bool
is_generated_end ends.Done = true
is_generated_end ends.Page = true
is_generated_end ends.WriteFault = true
is_generated_end ends.Memory = true
is_generated_end status = false

-- the end that a stop comes to
abbrev pub status_by : Stop → Status
status_by stops.WriteFault = ends.WriteFault
status_by stops.FileFault = ends.FileFault
status_by stops.Memory = ends.Memory
status_by (stops.FileChanged a b) = ends.FileChanged a b

abbrev pub status_of : Result Status Stop → Status
status_of (Ok status) = status
status_of (Err stop) = status_by stop

-- the exit code of a status
abbrev pub code_of : Status → ℕ
code_of ends.Done = 0
code_of ends.Page = 1
code_of ends.Usage = 2
code_of ends.ReadFault = 3
code_of ends.WriteFault = 4
code_of ends.FileFault = 5
code_of ends.Memory = 6
code_of ends.TooLong = 7
code_of (ends.FileChanged a b) = 8

-- ---- what was written

-- of an input: its whole text, with its end
pub record WroteInput (files : Files) (base : Parts) (names : List (List ℕ)) (input : List ℕ) (status : Status)
    (written now : Option (List ℕ)) : Type 0 where
  pub end : status ≡ expected_end input
  pub text : List ℕ
  pub is : IsExpected files base names input text
  pub wrote : now ≡ append_known written text

-- of an input: a front of its text
pub record WroteInputPart (files : Files) (base : Parts) (names : List (List ℕ)) (input : List ℕ)
    (written now : Option (List ℕ)) : Type 0 where
  pub text : List ℕ
  pub is : IsExpected files base names input text
  pub part : WrotePart written now text

-- The source was read to its end, the whole text was written, and the files are those that the commands leave.
pub record WroteAll (old new : Files) (base : Parts) (names : List (List ℕ)) (held left : Option (List ℕ))
    (given taken : ℕ) (status : Status) (written now : Option (List ℕ)) : Type 0 where
  pub input : List ℕ
  pub gave : Gave held left given taken input
  pub at_end : IsAtEnd left
  pub whole : WroteInput old base names input status written now
  pub files : new ≡ expected_files base names input old

-- the counts of a generated page were written
pub record WroteCounts (count : ℕ) (status : Status) (written now : Option (List ℕ)) : Type 0 where
  pub end : status ≡ generated_end count
  pub wrote : now ≡ append_known written (generated_text count)
