use Rattle.std.proofs.Common.{◌≡◌, ◌++◌, length, string_bytes}
use denote.Shadow.{shadow}
use denote.Text.{Utf8}
use Rattle.std.specs.List.{flat_map}
use Rattle.form_script.specs.Quoted.{shown}
use Rattle.form_script.proofs.quoted.push_shown.Given as goal

-- what is written, and what is left to write
abbrev pub invariant-loop-plain : goal.invariant-loop-plain
invariant-loop-plain l = shadow (Utf8 l.rest) × (string_bytes l.out ++ flat_map shown l.rest ≡ string_bytes l.fn.out ++ flat_map shown l.text)

abbrev pub decreases-loop-plain : goal.decreases-loop-plain
decreases-loop-plain l = length l.rest
