-- The files that commands choose; all others stay as they were.
use Rattle.std.specs.Prelude.{◌≡◌, ◌⊎◌, ℕ, List, [], ◌∷◌, ◌++◌, flat_map, All, Contains, Option, Some, None}
use Rattle.form_ports.specs.Shelf.{at_number}
use Rattle.form_page.specs.Page.{Page}
use Rattle.form_changes.specs.declared.act.Act.{Act}
use Rattle.form_changes.specs.declared.act.Act.TheVariants as acts
use Rattle.form_changes.specs.declared.act.ActFault.{ActFault}
use Rattle.form_acts.specs.Refusals.{refusal_of}
use Rattle.form_submit.specs.declared.outcome.Outcome.{Outcome}
use Rattle.form_submit.specs.declared.outcome.Outcome.TheVariants as outcomes
use Rattle.form_submit.specs.PrintedRequest.{file_numbers}
use Rattle.form_run.specs.declared.asked.Asked.{Asked}
use Rattle.form_run.specs.declared.asked.Asked.TheVariants as asks
use Rattle.form_run.specs.Session.{Session, after, asked_in}

-- ---- which files are chosen

-- the numbers of the files that an act chooses
abbrev pub chosen_by : Act → List ℕ
chosen_by (acts.Choose key files) = files
chosen_by act = []

abbrev pub chosen_unless : Option ActFault → Act → List ℕ
chosen_unless None act = chosen_by act
chosen_unless (Some fault) act = []

-- a refused act chooses nothing
abbrev pub chosen : Page → Asked → List ℕ
chosen page (asks.Act act) = chosen_unless (refusal_of page act) act
chosen page asked = []

-- the files that the accepted commands of lines choose
unfoldable pub chosen_in : Session → List (List ℕ) → List ℕ
chosen_in session [] = []
chosen_in session (line ∷ lines) = chosen session.page (asked_in session.page line) ++ chosen_in (after session line) lines

-- ---- which files are named

-- the numbers of the files that elements name
unfoldable pub named_in : Page → List ℕ
named_in page = flat_map (λ n. n.state.files) page.tree.nodes

-- no element names a file
abbrev pub NamesNone : Page → Type 0
NamesNone page = All (λ n. n.state.files ≡ []) page.tree.nodes

-- the numbers of the files of an outcome's request
abbrev pub outcome_numbers : Outcome → List ℕ
outcome_numbers (outcomes.Stopped keys) = []
outcome_numbers (outcomes.NoRequest why) = []
outcome_numbers (outcomes.Request request) = file_numbers request.body

-- ---- all others

-- what stands at a number is the very same, or it is gone
abbrev pub Stays : {B : Type 0} → Option (Option B) → Option (Option B) → Type 0
Stays was now = (now ≡ was) ⊎ (now ≡ Some None)

-- each file but those of these numbers is the very same, or it is gone
pub record OthersStay {B : Type 0} (numbers : List ℕ) (old new : List (Option B)) : Type 0 where
  pub each : (k : ℕ) → ¬ (Contains numbers k) → Stays (at_number old k) (at_number new k)
