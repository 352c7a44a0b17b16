-- How far the text of an input is known where some files do not tell their content.
use Rattle.std.specs.Prelude.{◌≡◌, ℕ, ◌&&◌, ◌⊎◌, ⊤, not, nat_lt, Bool, true, false, List, [], ◌∷◌, ◌++◌, Option, Some, None, IfSome, Result, Ok, Err, is_some, if◌then◌else◌}
use Rattle.std.specs.Io.KnownBytes.{append_known}
use Rattle.std.specs.List.{list_any}
use Rattle.url.specs.Parts.{Parts}
use Rattle.form_ports.specs.Shelf.{told}
use Rattle.form_tree.specs.declared.node.Raw.{Raw}
use Rattle.form_encode.specs.declared.entry.Entry.{Entry}
use Rattle.form_entries.specs.EntryList.{entries_length, entry_list, most_bytes}
use Rattle.form_input.specs.Input.{command_lines}
use Rattle.form_input.specs.Words.{PlainTask, Generated, Page}
use Rattle.form_submit.specs.Outcome.{files_read}
use Rattle.form_submit.specs.declared.route.Route.{Route}
use Rattle.form_submit.specs.Route.{route_of}
use Rattle.form_run.specs.declared.asked.Asked.{Asked}
use Rattle.form_run.specs.declared.asked.Asked.TheVariants as asks
use Rattle.form_run.specs.Session.{Files, Session, after, asked_in, files_after, opened}
use Rattle.form_run.specs.Taken.{page_in}
use Rattle.form_run.specs.Transcript.{IsEnd, IsExpected, IsTranscript}
use Rattle.form_run.specs.declared.status.Status.{Status}

-- Entries are open where their files are read, and one of these does not tell its content: which of the request, too
-- long and no boundary they come to is decided by that content, but where they are too long by themselves.
abbrev pub are_open : Files → Route → List Entry → Bool
are_open files route entries =
    not (nat_lt most_bytes (entries_length entries))
    && list_any (λ number. not (is_some (told files number))) (files_read route entries)

-- the line asks for a submission of such
abbrev pub is_open : Files → Session → Asked → Bool
is_open files session (asks.Submit s) =
    are_open files (route_of session.page.tree.nodes session.base s.form s.submitter s.check)
    (entry_list session.page s.form s.submitter s.at)
is_open files session asked = false

-- the lines before the first that asks for such a submission
unfoldable pub known_lines : Files → Session → List (List ℕ) → List (List ℕ)
known_lines files session [] = []
known_lines files session (line ∷ lines) =
    if is_open files session (asked_in session.page line) then []
    else line ∷ known_lines (files_after session.page files line) (after session line) lines

abbrev pub known_of : Files → Parts → List (List ℕ) → List (List ℕ) → Result (List Raw) (List ℕ) → List (List ℕ)
known_of files base names lines (Err line) = lines
known_of files base names lines (Ok raws) = known_lines files (opened base raws names) lines

-- The text begins with such a one.
pub record Begins (text front : List ℕ) : Type 0 where
  pub rest : List ℕ
  pub whole : text ≡ front ++ rest

-- There is one text of the page and the lines before the first open submission, and each text of the input begins with
-- it.
pub record HasOneFront (files : Files) (base : Parts) (names : List (List ℕ)) (input : List ℕ) : Type 0 where
  pub front : List ℕ
  pub is : IsTranscript files base names (known_of files base names (command_lines input) (page_in input)) (page_in input) front
  pub one : (other : List ℕ)
      → IsTranscript files base names (known_of files base names (command_lines input) (page_in input)) (page_in input) other
      → other ≡ front
  pub begins : (text : List ℕ) → IsExpected files base names input text → Begins text front

-- a sink took a text of which that holds
pub record WroteSuch (Is : List ℕ → Type 0) (written now : Option (List ℕ)) : Type 0 where
  pub text : List ℕ
  pub is : Is text
  pub bytes : now ≡ append_known written text

-- With Done or Page what was written begins with the known front; in each ending one begins with the other.
pub record WroteKnown (files : Files) (base : Parts) (names : List (List ℕ)) (input : List ℕ) (status : Status)
    (written now : Option (List ℕ)) : Type 0 where
  pub known : HasOneFront files base names input
  pub whole : IsEnd status ≡ true → WroteSuch (λ text. Begins text known.front) written now
  pub part : WroteSuch (λ text. Begins text known.front ⊎ Begins known.front text) written now

-- the same of a task; no file decides what the counts of a generated page are
abbrev pub HasKnownFront : Option PlainTask → Files → (held : Option (List ℕ)) → Status → (written now : Option (List ℕ)) → Type 0
HasKnownFront None files held status written now = ⊤
HasKnownFront (Some (Page base names)) files held status written now =
    IfSome held (λ input. WroteKnown files base names input status written now)
HasKnownFront (Some (Generated count)) files held status written now = ⊤
