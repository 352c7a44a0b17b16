use Rattle.std.proofs.Common.{◌≡◌, ◌++◌, length, string_bytes}
use denote.Shadow.{shadow}
use denote.Text.{Utf8}
use Rattle.form_encode.specs.Multipart.{escaped}
use Rattle.form_encode.proofs.multipart.push_escaped.Given as goal

-- what is written, and what is left to write
abbrev pub invariant-loop-front : goal.invariant-loop-front
invariant-loop-front l = shadow (Utf8 l.rest) × (string_bytes l.out ++ escaped l.rest ≡ string_bytes l.initial.out ++ escaped l.name)

abbrev pub decreases-loop-front : goal.decreases-loop-front
decreases-loop-front l = length l.rest
