-- What a command asks for of a page, and why it is refused before anything is done.
use Rattle.std.specs.Prelude.{◌&&◌, Bool, true, false, Option, Some, None, Result, Ok, Err, if◌then◌else◌}
use Rattle.form_tree.specs.declared.node.Key.{Key}
use Rattle.form_tree.specs.declared.node.Node.{Node}
use Rattle.form_tree.specs.Elements.{is_form}
use Rattle.form_tree.specs.Tree.{Nodes, at_key}
use Rattle.form_page.specs.Invalid.{is_owned_by}
use Rattle.form_page.specs.Views.{is_seen}
use Rattle.form_changes.specs.declared.act.Act.TheVariants as acts
use Rattle.form_changes.specs.declared.act.ActFault.{ActFault}
use Rattle.form_changes.specs.declared.act.ActFault.TheVariants as faults
use Rattle.form_acts.specs.declared.clicked.Clicked.{Clicked}
use Rattle.form_acts.specs.declared.clicked.Clicked.TheVariants as clicks
use Rattle.form_acts.specs.Clicking.{click_of, implicit_of, is_submitter}
use Rattle.form_script.specs.declared.command.Command.{Command}
use Rattle.form_script.specs.declared.command.Command.TheVariants as commands
use Rattle.form_run.specs.declared.asked.Asked.{Asked}
use Rattle.form_run.specs.declared.asked.Asked.TheVariants as asks

-- what a click or the enter key asks for
abbrev pub asked_by : Result Clicked ActFault → Asked
asked_by (Ok clicks.Nothing) = asks.Nothing
asked_by (Ok (clicks.Reset form)) = asks.Act (acts.Reset form)
asked_by (Ok (clicks.Submit form submitter place)) =
    asks.Submit record { form = form; submitter = submitter; check = true; at = place }
asked_by (Err fault) = asks.Refused fault

-- ---- what a script submits

-- a form's submission without a button
abbrev pub own_submission : Key → Bool → Asked
own_submission form check = asks.Submit record { form = form; submitter = None; check = check; at = (0, 0) }

-- only forms are submitted
abbrev pub submission_of : Key → Bool → Option Node → Asked
submission_of key check None = asks.Refused faults.NoElement
submission_of key check (Some n) = if is_form n then own_submission key check else asks.Refused faults.WrongKind

abbrev pub submitted_at : Nodes → Key → Bool → Asked
submitted_at ns key check = submission_of key check (at_key ns key)

-- the element is a form, and the other one a submit button that it owns (HTML, `requestSubmit()`)
abbrev pub may_submit_by : Nodes → Node → Node → Bool
may_submit_by ns form button = is_form form && (is_submitter button && is_owned_by ns form.key button)

abbrev pub request_of : Nodes → Option Node → Option Node → Asked
request_of ns None button = asks.Refused faults.NoElement
request_of ns (Some form) None = asks.Refused faults.NoElement
request_of ns (Some form) (Some button) =
    if may_submit_by ns form button then
    asks.Submit record { form = form.key; submitter = Some button.key; check = true; at = (0, 0) }
    else asks.Refused faults.WrongKind

-- a form's submission by a button
abbrev pub requested_at : Nodes → Key → Key → Asked
requested_at ns key button = request_of ns (at_key ns key) (at_key ns button)

-- ---- what is shown

abbrev pub showing_of : Key → Option Node → Asked
showing_of key None = asks.Refused faults.NoElement
showing_of key (Some n) = if is_seen n then asks.Show key else asks.Refused faults.WrongKind

-- submittable elements and options are shown
abbrev pub shown_at : Nodes → Key → Asked
shown_at ns key = showing_of key (at_key ns key)

-- ---- all commands

-- what a command asks for
abbrev pub asked : Nodes → Command → Asked
asked ns (commands.Act act) = asks.Act act
asked ns (commands.Click key) = asked_by (click_of ns key None)
asked ns (commands.ClickAt key x y) = asked_by (click_of ns key (Some (x, y)))
asked ns (commands.Enter key) = asked_by (implicit_of ns key)
asked ns (commands.Submit key) = submitted_at ns key false
asked ns (commands.RequestSubmit key None) = submitted_at ns key true
asked ns (commands.RequestSubmit key (Some button)) = requested_at ns key button
asked ns (commands.Show key) = shown_at ns key
asked ns (commands.Boundary boundaries) = asks.Boundaries boundaries
