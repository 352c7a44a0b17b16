use Rattle.std.proofs.Common.{◌≡◌, ◌≤◌, take}
use Rattle.std.specs.Char.{is_ascii_digit}
use Rattle.std.specs.List.{prefix_len}
use Rattle.form_text.proofs.NumberLaws.{kept_number}
use Rattle.form_text.proofs.integers.capped.Given as goal

-- all bytes so far are digits, and the number is theirs
abbrev pub invariant-loop-byte : goal.invariant-loop-byte
invariant-loop-byte l = (l.byte-index ≤ prefix_len is_ascii_digit l.text) × (l.number ≡ kept_number (take l.byte-index l.text))
