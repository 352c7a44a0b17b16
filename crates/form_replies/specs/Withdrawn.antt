-- Files that are withdrawn.
use Rattle.std.specs.Prelude.{ℕ, zero, suc, List, Option, Some, None, set}
use Rattle.form_changes.specs.declared.act.Act.{Act}
use Rattle.form_changes.specs.declared.act.Act.TheVariants as acts

-- the files without the one of that number; numbers are counted from 1
abbrev pub without_number : {X : Type 0} → List (Option X) → ℕ → List (Option X)
without_number files zero = files
without_number files (suc place) = set files place None

abbrev pub without_all : {X : Type 0} → List (Option X) → Option ℕ → List (Option X)
without_all files None = files
without_all files (Some number) = without_number files number

-- the number of the file that an act withdraws
abbrev pub withdrawn_by : Act → Option ℕ
withdrawn_by (acts.Withdraw number) = Some number
withdrawn_by act = None
