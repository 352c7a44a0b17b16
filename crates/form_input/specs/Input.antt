-- An input: a page, and behind the first line that says `%script` the commands.
use Rattle.std.specs.Prelude.{ℕ, List, Bool, codes, bytes_eq, flat_map, if◌then◌else◌}
use Rattle.std.specs.List.{list_any, before_first, after_first}
use Rattle.form_input.specs.Lines.{lines_of, with_end, without_cr}

-- the line that ends the page
abbrev pub is_script_line : List ℕ → Bool
is_script_line line = bytes_eq (without_cr line) (codes "%script")

-- the page: the lines before that line with their ends, or the whole input where there is no such line
unfoldable pub page_text : List ℕ → List ℕ
page_text input =
    if list_any is_script_line (lines_of input) then flat_map with_end (before_first is_script_line (lines_of input))
    else input

-- the commands: the lines behind that line
unfoldable pub command_lines : List ℕ → List (List ℕ)
command_lines input = after_first is_script_line (lines_of input)
