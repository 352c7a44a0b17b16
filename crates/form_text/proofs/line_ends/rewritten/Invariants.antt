use Rattle.std.proofs.Common.{◌≡◌, ◌++◌, length, string_bytes}
use denote.Shadow.{shadow}
use denote.Text.{Utf8}
use Rattle.form_text.specs.LineEnds.{with_line_ends}
use Rattle.form_text.proofs.line_ends.rewritten.Given as goal

-- what is written, and what is left to write
abbrev pub invariant-loop-line : goal.invariant-loop-line
invariant-loop-line l = shadow (Utf8 l.rest) × (string_bytes l.out ++ with_line_ends l.end l.rest ≡ with_line_ends l.end l.text)

abbrev pub decreases-loop-line : goal.decreases-loop-line
decreases-loop-line l = length l.rest
