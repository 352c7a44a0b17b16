use Rattle.std.proofs.Common.{◌≡◌, map, take}
use Rattle.std.specs.Prelude.{string_bytes}
use Rattle.form_run.proofs.session.strings_of.Given as goal

-- the strings of the texts so far
abbrev pub invariant-loop-text : goal.invariant-loop-text
invariant-loop-text l = map string_bytes l.strings.items ≡ take l.text-index l.texts
