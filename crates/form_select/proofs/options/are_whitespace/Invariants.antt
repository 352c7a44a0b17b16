use Rattle.std.proofs.Common.{◌≡◌, drop}
use Rattle.std.specs.Char.{is_ascii_whitespace}
use Rattle.std.specs.List.{list_all}
use Rattle.form_select.proofs.options.are_whitespace.Given as goal

-- whitespace is passed
abbrev pub invariant-loop-byte : goal.invariant-loop-byte
invariant-loop-byte l = list_all is_ascii_whitespace (drop l.byte-index l.bytes) ≡ list_all is_ascii_whitespace l.bytes
