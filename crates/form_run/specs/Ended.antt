-- What a run that was asked for a task did, by the end that it answered.
use Rattle.std.specs.Prelude.{◌≡◌, ℕ, ◌≤◌, All, List, length, true, false, Option, Some, None, IfSome, IsSome, ◌⊎◌, ⊤}
use Rattle.std.specs.Io.KnownBytes.{IsAtEnd}
use Rattle.url.specs.Parts.{Parts}
use Rattle.form_ports.specs.Shelf.{IsThere, told}
use Rattle.form_ports.specs.Written.{WrotePart}
use Rattle.form_input.specs.Limits.{most_input}
use Rattle.form_input.specs.Words.{PlainTask, Generated, Page}
use Rattle.form_run.specs.Counting.{generated_text}
use Rattle.form_run.specs.Session.{Files}
use Rattle.form_run.specs.Transcript.{AreExpectedUpTo, IsEnd, IsExpected, PageIs, WroteAll, WroteCounts, WroteInput, WroteInputPart}
use Rattle.form_run.specs.declared.status.Status.{Status}
use Rattle.form_run.specs.declared.status.Status.TheVariants as ends

-- With such an end some input was read whole, exactly its transcript was written, and the files are those that it
-- leaves; of a generated page the counts were written.
abbrev pub HasEnded : Option PlainTask → (old new : Files) → (held left : Option (List ℕ)) → (given taken : ℕ)
    → Status → (written now : Option (List ℕ)) → Type 0
HasEnded None old new held left given taken status written now = IsEnd status ≡ false
HasEnded (Some (Page base names)) old new held left given taken status written now =
    IsEnd status ≡ true → WroteAll old new base names held left given taken status written now
HasEnded (Some (Generated count)) old new held left given taken status written now =
    IsEnd status ≡ true → WroteCounts count status written now

-- in every ending what was written is a front of the text
abbrev pub HasWritten : Option PlainTask → Files → (held : Option (List ℕ)) → (written now : Option (List ℕ)) → Type 0
HasWritten None files held written now = now ≡ written
HasWritten (Some (Page base names)) files held written now =
    IfSome held (λ input. WroteInputPart files base names input written now)
HasWritten (Some (Generated count)) files held written now = WrotePart written now (generated_text count)

-- the end tells of the page of the input
abbrev pub IsPageOf : Option PlainTask → Option (List ℕ) → Status → Type 0
IsPageOf None held status = ⊤
IsPageOf (Some (Page base names)) held status = IfSome held (PageIs status)
IsPageOf (Some (Generated count)) held status = ⊤

-- where no document is named nothing is read
abbrev pub IsUnread : Option PlainTask → (held left : Option (List ℕ)) → (given taken : ℕ) → Type 0
IsUnread None held left given taken = (left ≡ held) × (taken ≡ given)
IsUnread (Some (Page base names)) held left given taken = ⊤
IsUnread (Some (Generated count)) held left given taken = (left ≡ held) × (taken ≡ given)

-- every file tells its content
abbrev pub AllTell : Files → Type 0
AllTell files = (number : ℕ) → IsThere files number → IsSome (told files number)

-- where each name has a file that tells its content, an input has one text
abbrev pub HasOneText : Files → Parts → List (List ℕ) → List ℕ → Type 0
HasOneText files base names input =
    (one other : List ℕ) → length names ≡ length files → All IsSome files → AllTell files
    → IsExpected files base names input one → IsExpected files base names input other → one ≡ other

-- the source is at its end, and the whole transcript was written
pub record IsWhole (files : Files) (base : Parts) (names : List (List ℕ)) (input : List ℕ) (status : Status)
    (left written now : Option (List ℕ)) : Type 0 where
  pub at_end : IsAtEnd left
  pub whole : WroteInput files base names input status written now

-- Where no count rose and all bytes are told, the whole text is written, or memory was refused.
abbrev pub IsCompleteOf : Option PlainTask → Files → (held left : Option (List ℕ)) → (read_rose write_rose file_rose : Type 0)
    → Status → (written now : Option (List ℕ)) → Type 0
IsCompleteOf None files held left read_rose write_rose file_rose status written now =
    (status ≡ ends.Usage) ⊎ (status ≡ ends.Memory)
IsCompleteOf (Some (Page base names)) files held left read_rose write_rose file_rose status written now =
    IfSome held (λ input. length input ≤ most_input → AllTell files → ¬ read_rose → ¬ write_rose → ¬ file_rose
    → (status ≡ ends.Memory) ⊎ IsWhole files base names input status left written now)
IsCompleteOf (Some (Generated count)) files held left read_rose write_rose file_rose status written now =
    ¬ write_rose → (status ≡ ends.Memory) ⊎ WroteCounts count status written now

-- the files are those after some of the commands; where no document is named, the very same
abbrev pub HasFilesUpTo : {B : Type 0} → Option PlainTask → (held : Option (List ℕ)) → (old new : Files)
    → (shelf left : List (Option B)) → Type 0
HasFilesUpTo None held old new shelf left = left ≡ shelf
HasFilesUpTo (Some (Page base names)) held old new shelf left =
    IfSome held (λ input. AreExpectedUpTo base names input old new shelf left)
HasFilesUpTo (Some (Generated count)) held old new shelf left = left ≡ shelf
