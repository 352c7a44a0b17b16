-- What a run keeps from line to line, and what each line makes of it.
use Rattle.std.specs.Prelude.{◌==◌, ℕ, ◌≤◌, Bool, true, false, List, [], ◌∷◌, length, codes, All, ⊤, Option, Some, None}
use Rattle.url.specs.Parts.{Parts}
use Rattle.form_encode.specs.Boundaries.{longest_boundary}
use Rattle.form_tree.specs.declared.node.Raw.{Raw}
use Rattle.form_page.specs.Opening as pages
use Rattle.form_page.specs.Page.{Page}
use Rattle.form_changes.specs.declared.act.Act.{Act}
use Rattle.form_changes.specs.declared.act.ActFault.{ActFault}
use Rattle.form_acts.specs.Acts.{outcome}
use Rattle.form_acts.specs.Refusals.{refusal_of}
use Rattle.form_input.specs.Lines.{without_cr}
use Rattle.form_script.specs.declared.command.Command.{Command}
use Rattle.form_script.specs.LineReading.{command_of}
use Rattle.form_replies.specs.Withdrawn.{withdrawn_by, without_all}
use Rattle.form_run.specs.declared.asked.Asked.{Asked}
use Rattle.form_run.specs.declared.asked.Asked.TheVariants as asks
use Rattle.form_run.specs.Asking.{asked}

-- The document's URL, the page as it is now, and the boundaries that multipart bodies may have.
pub record Session : Type 0 where
  pub base : Parts
  pub page : Page
  pub bounds : List (List ℕ)

-- the boundary that there is as long as none is named
abbrev pub first_boundary : List ℕ
first_boundary = codes "form-boundary-0"

-- a session with a page that was just read
abbrev pub opened : Parts → List Raw → List (List ℕ) → Session
opened base raws names = record { base = base; page = pages.opened raws names; bounds = first_boundary ∷ [] }

-- ---- what a line asks for

abbrev pub number_sign : ℕ
number_sign = 35

-- an empty line and one that begins with `#` are no commands
abbrev pub is_no_command : List ℕ → Bool
is_no_command [] = true
is_no_command (b ∷ line) = b == number_sign

abbrev pub asked_by_line : Bool → Page → Option Command → Asked
asked_by_line true page command = asks.NoCommand
asked_by_line false page None = asks.Syntax
asked_by_line false page (Some command) = asked page.tree.nodes command

-- what a line asks for; a carriage return at its end is no part of it
unfoldable pub asked_in : Page → List ℕ → Asked
asked_in page line = asked_by_line (is_no_command (without_cr line)) page (command_of (without_cr line))

-- boundaries are as long as they may be
abbrev pub HasShortBoundaries : Asked → Type 0
HasShortBoundaries (asks.Boundaries boundaries) = All (λ boundary. length boundary ≤ longest_boundary) boundaries
HasShortBoundaries asked = ⊤

-- ---- the session after a line

abbrev pub page_after : Page → Asked → Page
page_after page (asks.Act act) = outcome page act
page_after page asked = page

abbrev pub bounds_after : List (List ℕ) → Asked → List (List ℕ)
bounds_after bounds (asks.Boundaries boundaries) = boundaries
bounds_after bounds asked = bounds

abbrev pub session_after : Session → Asked → Session
session_after session asked = record {
  base = session.base;
  page = page_after session.page asked;
  bounds = bounds_after session.bounds asked;
}

abbrev pub after : Session → List ℕ → Session
after session line = session_after session (asked_in session.page line)

-- ---- the files after a line

-- what is told of the files of a run: the content of each, where there is one and where it tells it
abbrev pub Files : Type 0
Files = List (Option (Option (List ℕ)))

abbrev pub withdrawn_unless : Option ActFault → Act → Option ℕ
withdrawn_unless None act = withdrawn_by act
withdrawn_unless (Some fault) act = None

-- a refused act withdraws nothing
abbrev pub withdrawn : Page → Asked → Option ℕ
withdrawn page (asks.Act act) = withdrawn_unless (refusal_of page act) act
withdrawn page asked = None

abbrev pub files_after : Page → Files → List ℕ → Files
files_after page files line = without_all files (withdrawn page (asked_in page line))
