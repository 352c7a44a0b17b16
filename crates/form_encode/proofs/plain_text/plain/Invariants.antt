use Rattle.std.proofs.Common.{◌≡◌, take, string_bytes}
use Rattle.form_encode.specs.PlainText.{plain_text}
use Rattle.form_encode.proofs.plain_text.plain.Given as goal

abbrev pub invariant-loop-pair : goal.invariant-loop-pair
invariant-loop-pair l = string_bytes l.out ≡ plain_text (take l.pair-index l.pairs)
