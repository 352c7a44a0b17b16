-- What is counted of the run over a generated page.
use Rattle.std.specs.Prelude.{ℕ, List, ◌++◌, codes}
use Rattle.std.specs.Fmt.{decimal}

-- the line of a count
abbrev pub count_line : List ℕ → ℕ → List ℕ
count_line name count = name ++ (codes " " ++ (decimal count ++ codes "\n"))

-- The five lines: the controls and the commands, how many commands were refused, how many views changed over all
-- commands, and how many candidates are invalid at the end.
unfoldable pub counts_text : (controls commands refused changes invalid : ℕ) → List ℕ
counts_text controls commands refused changes invalid =
    count_line (codes "controls") controls
    ++ (count_line (codes "commands") commands
    ++ (count_line (codes "refused") refused
    ++ (count_line (codes "changes") changes ++ count_line (codes "invalid") invalid)))
