-- What a line that was read asks for, and how long its boundaries are.
use Rattle.std.proofs.Common.{◌≡◌, ℕ, ◌≤◌, Bool, true, false, List, [], ◌∷◌, Option, Some, None, Result, Ok, Err, refl, sym, ap, subst, ◌∙◌, length}
use Rattle.std.specs.Prelude.{All, ⊤, if◌then◌else◌}
use Rattle.std.proofs.lemmas.List.Elements.{All-cons, All-nil}
use Rattle.form_encode.specs.Boundaries.{longest_boundary}
use Rattle.form_tree.specs.declared.node.Key.{Key}
use Rattle.form_tree.specs.declared.node.Node.{Node}
use Rattle.form_tree.specs.Elements.{is_form}
use Rattle.form_tree.specs.Tree.{Nodes, at_key}
use Rattle.form_page.specs.Page.{Page}
use Rattle.form_page.specs.Views.{is_seen}
use Rattle.form_changes.specs.declared.act.ActFault.{ActFault}
use Rattle.form_changes.specs.declared.act.ActFault.TheVariants as faults
use Rattle.form_acts.specs.declared.clicked.Clicked.{Clicked}
use Rattle.form_acts.specs.declared.clicked.Clicked.TheVariants as clicks
use Rattle.form_acts.specs.Clicking.{click_of, implicit_of}
use Rattle.form_script.specs.declared.command.Command.{Command}
use Rattle.form_script.specs.declared.command.Command.TheVariants as commands
use Rattle.form_script.specs.declared.verb.KeyVerb.{KeyVerb}
use Rattle.form_script.specs.declared.verb.KeyVerb.TheVariants as key_verbs
use Rattle.form_script.specs.declared.verb.MarkVerb.{MarkVerb}
use Rattle.form_script.specs.declared.verb.MarkVerb.TheVariants as mark_verbs
use Rattle.form_script.specs.declared.verb.TextVerb.{TextVerb}
use Rattle.form_script.specs.declared.verb.TextVerb.TheVariants as text_verbs
use Rattle.form_script.specs.declared.verb.Verb.{Verb}
use Rattle.form_script.specs.declared.verb.Verb.TheVariants as verbs
use Rattle.form_script.specs.LineReading.{command_of}
use Rattle.form_script.specs.Lines.{AreSpaced, Spells, SpellsParts, key_command, mark_command, text_command}
use Rattle.form_script.specs.Words.{IsBoundary}
use Rattle.form_script.proofs.Laws.{line_found, line_there}
use Rattle.form_run.specs.declared.asked.Asked.TheVariants as asks
use Rattle.form_run.specs.Asking.{asked, asked_by, may_submit_by, own_submission, request_of, showing_of, submission_of}
use Rattle.form_run.specs.Session.{HasShortBoundaries, asked_by_line}

-- ---- what asks for no boundaries

asked_by_short : (clicked : Result Clicked ActFault) → HasShortBoundaries (asked_by clicked)
asked_by_short (Ok clicks.Nothing) = tt
asked_by_short (Ok (clicks.Reset form)) = tt
asked_by_short (Ok (clicks.Submit form submitter place)) = tt
asked_by_short (Err fault) = tt

submission_short : (key : Key) (check : Bool) (found : Option Node) → HasShortBoundaries (submission_of key check found)
submission_short key check None = tt
submission_short key check (Some n) = go (is_form n)
  where
    go : (b : Bool) → HasShortBoundaries (if b then own_submission key check else asks.Refused faults.WrongKind)
    go true = tt
    go false = tt

request_short : (ns : Nodes) (form button : Option Node) → HasShortBoundaries (request_of ns form button)
request_short ns None button = tt
request_short ns (Some form) None = tt
request_short ns (Some form) (Some button) = go (may_submit_by ns form button)
  where
    go : (b : Bool) → HasShortBoundaries (if b then asks.Submit record { form = form.key; submitter = Some button.key; check = true; at = (0, 0) } else asks.Refused faults.WrongKind)
    go true = tt
    go false = tt

showing_short : (key : Key) (found : Option Node) → HasShortBoundaries (showing_of key found)
showing_short key None = tt
showing_short key (Some n) = go (is_seen n)
  where
    go : (b : Bool) → HasShortBoundaries (if b then asks.Show key else asks.Refused faults.WrongKind)
    go true = tt
    go false = tt

-- ---- commands

-- boundaries that a command names are as long as they may be
abbrev ShortCommand : Command → Type 0
ShortCommand (commands.Boundary boundaries) = All (λ boundary. length boundary ≤ longest_boundary) boundaries
ShortCommand command = ⊤

command_short : (ns : Nodes) (command : Command) → ShortCommand command → HasShortBoundaries (asked ns command)
command_short ns (commands.Act act) short = tt
command_short ns (commands.Click key) short = asked_by_short (click_of ns key None)
command_short ns (commands.ClickAt key x y) short = asked_by_short (click_of ns key (Some (x, y)))
command_short ns (commands.Enter key) short = asked_by_short (implicit_of ns key)
command_short ns (commands.Submit key) short = submission_short key false (at_key ns key)
command_short ns (commands.RequestSubmit key None) short = submission_short key true (at_key ns key)
command_short ns (commands.RequestSubmit key (Some button)) short = request_short ns (at_key ns key) (at_key ns button)
command_short ns (commands.Show key) short = showing_short key (at_key ns key)
command_short ns (commands.Boundary boundaries) short = short

spaced_short : (text : List ℕ) (boundaries : List (List ℕ)) → AreSpaced IsBoundary text boundaries → All (λ boundary. length boundary ≤ longest_boundary) boundaries
spaced_short text [] spaced = All-nil (λ boundary. length boundary ≤ longest_boundary)
spaced_short text (boundary ∷ boundaries) spaced =
    All-cons (λ boundary. length boundary ≤ longest_boundary) boundary boundaries spaced.3.short (spaced_short spaced.1 boundaries spaced.4)

key_short : (verb : KeyVerb) (key : Key) → ShortCommand (key_command verb key)
key_short key_verbs.Check key = tt
key_short key_verbs.Uncheck key = tt
key_short key_verbs.Pick key = tt
key_short key_verbs.Reset key = tt
key_short key_verbs.Click key = tt
key_short key_verbs.Enter key = tt
key_short key_verbs.Submit key = tt
key_short key_verbs.Show key = tt

text_short : (verb : TextVerb) (key : Key) (text : List ℕ) → ShortCommand (text_command verb key text)
text_short text_verbs.User key text = tt
text_short text_verbs.Set key text = tt
text_short text_verbs.Text key text = tt
text_short text_verbs.Custom key text = tt

mark_short : (verb : MarkVerb) (key : Key) (mark : Bool) → ShortCommand (mark_command verb key mark)
mark_short mark_verbs.SetChecked key mark = tt
mark_short mark_verbs.SetSelected key mark = tt

parts_short : (verb : Verb) (parts : List ℕ) (command : Command) → SpellsParts verb parts command → ShortCommand command
parts_short (verbs.Key verb) parts command h = subst ShortCommand (sym h.2) (key_short verb h.0)
parts_short (verbs.Text verb) parts command h = subst ShortCommand (sym h.3) (text_short verb h.0 h.1)
parts_short (verbs.Mark verb) parts command h = subst ShortCommand (sym h.3) (mark_short verb h.0 h.1)
parts_short verbs.Attr parts command h = subst ShortCommand (sym h.3) tt
parts_short verbs.Unattr parts command h = subst ShortCommand (sym h.3) tt
parts_short verbs.Choose parts command h = subst ShortCommand (sym h.3) tt
parts_short verbs.Withdraw parts command h = subst ShortCommand (sym h.2) tt
parts_short verbs.ClickAt parts command h = subst ShortCommand (sym h.3) tt
parts_short verbs.RequestSubmit parts command h = subst ShortCommand (sym h.3) tt
parts_short verbs.Boundary parts command h = subst ShortCommand (sym h.3) (spaced_short _ h.0 h.1)

-- ---- lines

-- what a line asks for that spells a command
pub heard_short : (ns : Nodes) (line : List ℕ) (command : Command) → Spells line command → HasShortBoundaries (asked ns command)
heard_short ns line command h = command_short ns command (parts_short h.verb h.parts command h.parts_are)

pub heard_command : (page : Page) (line : List ℕ) (command : Command) (no_command : Bool) → no_command ≡ false → Spells line command
    → asked page.tree.nodes command ≡ asked_by_line no_command page (command_of line)
heard_command page line command no_command some h =
    sym (ap (λ found. asked_by_line no_command page found) (line_there line command h) ∙ ap (λ b. asked_by_line b page (Some command)) some)

missing : (line : List ℕ) (found : Option Command) → command_of line ≡ found → ((command : Command) → ¬ (Spells line command)) → command_of line ≡ None
missing line None e none = e
missing line (Some command) e none = absurd (none command (line_found line command e))

-- and one that spells none
pub heard_nothing : (page : Page) (line : List ℕ) (no_command : Bool) → no_command ≡ false → ((command : Command) → ¬ (Spells line command))
    → asks.Syntax ≡ asked_by_line no_command page (command_of line)
heard_nothing page line no_command some none =
    sym (ap (λ found. asked_by_line no_command page found) (missing line (command_of line) refl none) ∙ ap (λ b. asked_by_line b page None) some)

-- a line that is no command
pub heard_none : (page : Page) (line : List ℕ) (no_command : Bool) → no_command ≡ true → asks.NoCommand ≡ asked_by_line no_command page (command_of line)
heard_none page line no_command none = sym (ap (λ b. asked_by_line b page (command_of line)) none)
