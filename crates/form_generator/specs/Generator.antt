-- A generated page and its commands.
use Rattle.std.specs.Prelude.{ℕ, ◌+◌, ◌/◌, ◌%◌, ◌==◌, List, [], ◌∷◌, ◌++◌, codes, flat_map, if◌then◌else◌}
use Rattle.std.specs.Fmt.{decimal}
use Rattle.std.specs.List.{range_with_len}
use Rattle.form_generator.specs.Limits.{controls_of_a_group}
use Rattle.form_generator.specs.declared.generator.Control.{Control}
use Rattle.form_generator.specs.declared.generator.Control.TheVariants as kinds

-- the numbers from 1 to this one
abbrev pub numbers_to : ℕ → List ℕ
numbers_to count = range_with_len 1 count

-- ---- the page

-- which control has this number: the four kinds take turns
abbrev pub control_of : ℕ → Control
control_of number =
    if number % 4 == 1 then kinds.Text
    else (if number % 4 == 2 then kinds.Number else (if number % 4 == 3 then kinds.Checkbox else kinds.Radio))

-- the keyword of the control's own type
abbrev pub keyword_of : Control → List ℕ
keyword_of kinds.Text = codes "text"
keyword_of kinds.Number = codes "number"
keyword_of kinds.Checkbox = codes "checkbox"
keyword_of kinds.Radio = codes "radio"

-- the tag of a control with this number
abbrev pub tag_of : Control → ℕ → List ℕ
tag_of kinds.Text number = codes "<input name=\"c" ++ (decimal number ++ codes "\" required maxlength=\"3\">")
tag_of kinds.Number number =
    codes "<input type=\"number\" name=\"c" ++ (decimal number ++ codes "\" min=\"0\" max=\"9\">")
tag_of kinds.Checkbox number = codes "<input type=\"checkbox\" name=\"c" ++ (decimal number ++ codes "\" required>")
tag_of kinds.Radio number =
    codes "<input type=\"radio\" name=\"g" ++ (decimal (number / controls_of_a_group) ++ codes "\" required>")

-- the tag of the control that has this number
abbrev pub tag_at : ℕ → List ℕ
tag_at number = tag_of (control_of number) number

-- The markup of the page of so many controls: one form with them, without spaces between.
unfoldable pub generated_page : ℕ → List ℕ
generated_page count = codes "<form>" ++ (flat_map tag_at (numbers_to count) ++ codes "</form>")

-- ---- the commands

-- a command on the control of this number: its key is one more, since the form has the key 1
abbrev pub command_on : ℕ → List ℕ → List ℕ → List ℕ
command_on number verb rest = verb ++ (codes " @" ++ (decimal (number + 1) ++ rest))

-- behind the key, the words that set the type back to the control's own
abbrev pub own_type : Control → List ℕ
own_type control = codes " type \"" ++ (keyword_of control ++ codes "\"")

-- the ten commands on the control that has this number
abbrev pub commands_at : ℕ → List (List ℕ)
commands_at number =
    command_on number (codes "user") (codes " \"a\"")
    ∷ command_on number (codes "set") (codes " \"12\"")
    ∷ command_on number (codes "attr") (codes " required \"\"")
    ∷ command_on number (codes "check") []
    ∷ command_on number (codes "attr") (codes " type \"date\"")
    ∷ command_on number (codes "set") (codes " \"2024-02-29\"")
    ∷ command_on number (codes "attr") (codes " min \"2024-03-01\"")
    ∷ command_on number (codes "unattr") (codes " min")
    ∷ command_on number (codes "attr") (own_type (control_of number))
    ∷ command_on number (codes "set") (codes " \"\"")
    ∷ []

-- The commands on the page of so many controls: those on each, in the order of the page.
unfoldable pub generated_lines : ℕ → List (List ℕ)
generated_lines count = flat_map commands_at (numbers_to count)
