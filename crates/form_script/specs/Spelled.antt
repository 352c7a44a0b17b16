-- A line whose texts are still as they are spelled, and its command.
use Rattle.std.specs.Char.{to_ascii_lowercase}
use Rattle.std.specs.Prelude.{Bool, List, None, Option, Some, [], is_some, map, ℕ}
use Rattle.form_changes.specs.declared.act.Act.TheVariants as acts
use Rattle.form_tree.specs.declared.node.Key.{Key}
use Rattle.form_script.specs.LineReading.{boundaries_of, positives_of}
use Rattle.form_script.specs.Lines.{key_command, mark_command, text_command}
use Rattle.form_script.specs.Reading.{boundary_of, positive_of, text_in, ◌>>=◌}
use Rattle.form_script.specs.declared.command.Command.TheVariants as commands
use Rattle.form_script.specs.declared.command.Command.{Command}
use Rattle.form_script.specs.declared.line.Spelled.TheVariants as lines
use Rattle.form_script.specs.declared.line.Spelled.{Spelled}
use Rattle.form_script.specs.declared.lists.Part.TheVariants as parts
use Rattle.form_script.specs.declared.lists.Part.{Part}

-- an attribute that is set, or taken away
abbrev pub attr_in : Key → List ℕ → List ℕ → Option Command
attr_in key name inside =
    text_in inside >>= λ text. Some (commands.Act (acts.Attr key (map to_ascii_lowercase name) (Some text)))

abbrev pub unattr_in : Key → List ℕ → Command
unattr_in key name = commands.Act (acts.Attr key (map to_ascii_lowercase name) None)

-- its command
abbrev pub command_in : Spelled → Option Command
command_in (lines.Key verb key) = Some (key_command verb key)
command_in (lines.Text verb key inside) = text_in inside.now >>= λ text. Some (text_command verb key text)
command_in (lines.Mark verb key mark) = Some (mark_command verb key mark)
command_in (lines.Attr key name inside) = attr_in key name.now inside.now
command_in (lines.Unattr key name) = Some (unattr_in key name.now)
command_in (lines.Choose key) = Some (commands.Act (acts.Choose key []))
command_in (lines.ChooseFiles key numbers) =
    positives_of numbers.now >>= λ files. Some (commands.Act (acts.Choose key files))
command_in (lines.Withdraw file) = Some (commands.Act (acts.Withdraw file))
command_in (lines.ClickAt key x y) = Some (commands.ClickAt key x y)
command_in (lines.RequestSubmit form submitter) = Some (commands.RequestSubmit form submitter)
command_in (lines.Boundary literals) = boundaries_of literals.now >>= λ boundaries. Some (commands.Boundary boundaries)

-- the word spells the part
abbrev pub passes : Part → List ℕ → Bool
passes parts.Positive word = is_some (positive_of word)
passes parts.Boundary word = is_some (boundary_of word)
