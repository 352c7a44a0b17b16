use Rattle.std.proofs.Common.{length}
use denote.Shadow.{shadow}
use denote.Text.{Utf8}
use Rattle.form_input.proofs.ScriptLines.{Passed}
use Rattle.form_input.proofs.input.split_script.Given as goal

-- no line so far is the one that ends the page
abbrev pub invariant-lines : goal.invariant-lines
invariant-lines l = Passed l.text l.rest × shadow (Utf8 l.rest)

abbrev pub decreases-lines : goal.decreases-lines
decreases-lines l = length l.rest
