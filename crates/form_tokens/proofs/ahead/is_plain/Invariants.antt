use Rattle.std.proofs.Common.{◌≡◌, ◌==◌, ◌||◌, drop}
use Rattle.std.specs.List.{list_any}
use Rattle.form_tokens.specs.Ahead.{ends_plain}
use Rattle.form_tokens.proofs.ahead.is_plain.Given as goal

-- the bytes so far, or those to come
abbrev pub invariant-loop-b : goal.invariant-loop-b
invariant-loop-b l = (l.least == 0 || list_any ends_plain (drop l.b-index l.bytes)) ≡ list_any ends_plain l.bytes
